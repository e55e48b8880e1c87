-- The desk program's line, as written: without a book, and with one.
use Prim.Native.Nat.{ℕ}
use native.Mathlib.Omega.{arith}
use mathlib.Core.Path.{◌≡◌}
use mathlib.Core.Bool.{Bool, true, false}
use mathlib.Core.List.{List}
use lib.ListN.{length}
use Rattle.spec_octets.specs.Buffer.{Put, filled, filled_length}
use Rattle.text_buffer.proofs.Filled.{put_room}
use Rattle.spec_octets.specs.Octets.{text}
use Rattle.spec_applicant.specs.Applicant.{Applicant}
use Rattle.spec_rule.specs.declared.Judgement.{Judgement}
use Rattle.spec_rule.specs.Calls.{judge}
use Rattle.spec_desk.specs.Lines.{judgement_line, desk_line}

module _ (d x : List ℕ) (n : ℕ) where
  module _ (size : length d ≡ 89) where
    pub bookless_put :
        (found : Bool) (request issuer : List ℕ) (who : Applicant) (book : List ℕ) → x ≡ filled (text "no book\n") d → n ≡ filled_length (text "no book\n") d → found ≡ false →
        Put (desk_line found request issuer who book) d x n
    unfolding desk_line
    bookless_put found request issuer who book put count e = rw e (put_room (text "no book\n") d (omega arith) x n put count)

  pub judged_put :
      (found : Bool) (request issuer : List ℕ) (who : Applicant) (book : List ℕ) (j : Judgement) → Put (judgement_line j) d x n → j ≡ judge request issuer who book → found ≡ true →
      Put (desk_line found request issuer who book) d x n
  unfolding desk_line
  judged_put found request issuer who book j p is e = rw (e, ← is) p
