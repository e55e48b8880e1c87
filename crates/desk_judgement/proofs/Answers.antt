-- The words of each answer, as written, and the line.
use Prim.Native.Nat.{ℕ, ◌+◌, ◌≤◌}
use native.Mathlib.Omega.{arith}
use mathlib.Core.Path.{◌≡◌, refl}
use mathlib.Core.List.{List}
use lib.ListN.{length, set}
use Rattle.spec_octets.specs.Buffer.{Put, filled, filled_length}
use Rattle.text_buffer.proofs.Filled.{put_room}
use Rattle.text_buffer.proofs.LentRest.{put_length, put_octet}
use Rattle.spec_octets.specs.Octets.{text}
use Rattle.spec_refusal.specs.declared.Refusal.{Refusal}
use Rattle.spec_refusal.specs.Refusal.{number, place}
use Rattle.spec_rule.specs.declared.Denial.{Denial}
use Rattle.spec_rule.specs.declared.Judgement.{Judgement}
use Rattle.spec_rule.specs.declared.Judgement.TheVariants.{Permitted, UnknownCritical, NotGranted, TooManyAliases, Refused}
use Rattle.spec_desk.specs.Lines.{numbered, denial_text, answer_text, judgement_line}

module _ (d x : List ℕ) (n : ℕ) where
  module _ (room : 88 ≤ length d) (put : x ≡ filled (text "verdict 0") d) (count : n ≡ filled_length (text "verdict 0") d) where
    verdict-put : Put (text "verdict 0") d x n
    verdict-put = put_room (text "verdict 0") d (omega arith) x n put count

    pub permitted-put : (j : Judgement) → j ≡ Permitted → Put (answer_text j) d x n
    unfolding answer_text
    permitted-put j e = rw e verdict-put

    pub permitted-few : n ≤ 88
    permitted-few = omega (arith, verdict-put.count)

  pub critical-put : (j : Judgement) (e : Denial) → Put (denial_text (text "verdict 20 name ") e) d x n → j ≡ UnknownCritical e → Put (answer_text j) d x n
  unfolding answer_text
  critical-put j e p is = rw is p

  pub not-granted-put : (j : Judgement) (e : Denial) → Put (denial_text (text "verdict 21 name ") e) d x n → j ≡ NotGranted e → Put (answer_text j) d x n
  unfolding answer_text
  not-granted-put j e p is = rw is p

  pub too-many-put : (j : Judgement) (e : Denial) → Put (denial_text (text "verdict 22 name ") e) d x n → j ≡ TooManyAliases e → Put (answer_text j) d x n
  unfolding answer_text
  too-many-put j e p is = rw is p

  pub refused-put :
      (j : Judgement) (r : Refusal) (k at : ℕ) → Put (numbered (text "refused ") k (text " at ") at) d x n → k ≡ number r → at ≡ place r →
      j ≡ Refused r → Put (answer_text j) d x n
  unfolding answer_text
  refused-put j r k at p a b is = rw (is, ← a, ← b) p

  -- the line end behind the words
  module _ (j : Judgement) (p : Put (answer_text j) d x n) (few : n ≤ 88) (size : length d ≡ 89) where
    words-length : length x ≡ length d
    words-length = put_length p (omega (arith, p.count))

    pub line_put : Put (judgement_line j) d (set x n 10) (n + 1)
    line_put = put_octet p 10 (judgement_line j) (omega (arith, words-length)) refl
