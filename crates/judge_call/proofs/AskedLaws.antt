-- Notes of the sets that were asked.
use Prim.Native.Nat.{ℕ, zero, suc, ◌+◌, ◌*◌, ◌%◌, ◌<◌}
use native.Mathlib.Omega.{arith}
use mathlib.Core.Path.{◌≡◌, refl, sym, ap, ◌∙◌}
use mathlib.Core.Logic.{⊎_elim}
use mathlib.Core.Bool.{Bool, true, false, cond, true≢false}
use mathlib.Core.List.{List}
use lib.Dec.{eqb}
use lib.ListN.{length, get_or, set as put, replicate, length-set, length-replicate}
use lib.Seq.{get_or-set_other}
use borrow.Author.Tests.{eqb-true, eqb-false}
use Rattle.spec_limits.specs.Limits.{max_records}
use Rattle.spec_octets.specs.Lists.{any}
use Rattle.spec_octets.specs.Octets.{same, lowered}
use Rattle.spec_octets.proofs.ListLaws.{true_or_false}
use Rattle.spec_refusal.specs.declared.RecordNo.{RecordNo}
use Rattle.spec_applicant.specs.Applicant.{Applicant}
use Rattle.spec_rule.specs.declared.Judgement.{Judgement}
use Rattle.spec_rule.specs.declared.Judgement.TheVariants.{Permitted}
use Rattle.spec_rule.specs.Authorizations.{Authorization, unrestricted, forbidden, granted, unresolved, permits}
use Rattle.spec_rule.specs.Verdicts.{denied}
use Rattle.book_places.specs.Table.{room_for}
use Rattle.book_places.specs.NameAuthorizations.{question_number, set_authorization, answer_to, meaning}
use Rattle.book_places.proofs.StandingRecords.{room_enough}
use Rattle.book_places.proofs.Questions.{question_by_number}
use Rattle.judge_set.specs.BySet.{verdict_by_set}
use Rattle.judge_call.specs.Asked.{answer_permits, Asked}

module _ (issuer : List ℕ) (k u : ℕ) where
  pub permits_it : (a : Authorization) → Permitted ≡ cond (permits issuer a) Permitted (denied k u a) → permits issuer a ≡ true
  permits_it unrestricted e = refl
  permits_it (forbidden r) e = let z : ◌≡◌ {A = ℕ} 0 1 = cc in absurd (omega arith)
  permits_it (unresolved r) e = let z : ◌≡◌ {A = ℕ} 0 1 = cc in absurd (omega arith)
  permits_it (granted r ns) e = go (any (same (lowered issuer)) ns) e
    where
      go : (t : Bool) → Permitted ≡ cond t Permitted (denied k u (granted r ns)) → t ≡ true
      go true f = refl
      go false f = let z : ◌≡◌ {A = ℕ} 0 1 = cc in absurd (omega arith)

module _ (who : Applicant) (issuer book table links : List ℕ) where
  -- notes
  none_set : (m n : ℕ) → get_or (replicate m false) n false ≡ false
  none_set zero n = refl
  none_set (suc m) zero = refl
  none_set (suc m) (suc n) = none_set m n

  pub none_asked : (asked : List Bool) → asked ≡ replicate (2 * room_for book) false → Asked who issuer book table links asked
  none_asked asked e = rw e (record {
    long = length-replicate (2 * room_for book) false;
    permit = λ q f. absurd (true≢false (sym f ∙ none_set (2 * room_for book) q));
  })

  pub same_notes :
      (asked before : List Bool) → Asked who issuer book table links asked → Asked who issuer book table links before → length asked ≡ length before
  same_notes asked before k l = k.long ∙ sym l.long

  one_asked :
      (asked : List Bool) → Asked who issuer book table links asked → (n : ℕ) → answer_permits who issuer book table links n ≡ true →
      Asked who issuer book table links (put asked n true)
  one_asked asked k n e = record {
    long = length-set asked n true ∙ k.long;
    permit = λ q told. ⊎_elim
        (λ same. ap (answer_permits who issuer book table links) (eqb-true q n same) ∙ e)
        (λ other. k.permit q (sym (get_or-set_other asked n q true false (eqb-false q n other)) ∙ told))
        (true_or_false (eqb q n));
  }

  -- n is the number of the question
  module _ (set : RecordNo) (wildcard : Bool) (below : set.0 < room_for book) (n : ℕ) (f : n ≡ question_number set wildcard) where
    pub note_inside : (asked : List Bool) → Asked who issuer book table links asked → n < length asked
    unfolding question_number
    note_inside asked k = rw (k.long, f) (go wildcard)
      where
        go : (w : Bool) → 2 * (set.0 % 32768) + cond w 1 0 < 2 * room_for book
        go true = omega arith
        go false = omega arith

    answered : answer_to book table links n ≡ set_authorization book table links wildcard set
    unfolding max_records
    answered = rw f (question_by_number book table links set wildcard (omega (arith, (room_enough book).1)))

    permitted_before :
        (asked : List Bool) → Asked who issuer book table links asked → get_or asked n false ≡ true →
        permits issuer (meaning who book table links (set_authorization book table links wildcard set)) ≡ true
    unfolding answer_permits
    permitted_before asked k e = rw answered at (k.permit n e)

    now_asked :
        (asked : List Bool) → Asked who issuer book table links asked →
        permits issuer (meaning who book table links (set_authorization book table links wildcard set)) ≡ true →
        Asked who issuer book table links (put asked n true)
    unfolding answer_permits
    now_asked asked k e = one_asked asked k n (rw answered e)

    -- the verdict by a set that was asked, and by one that is asked now
    module _ (asked : List Bool) (notes : Asked who issuer book table links asked) (k up : ℕ) where
      pub by_note : get_or asked n false ≡ true → Permitted ≡ verdict_by_set who issuer book table links k set up wildcard
      unfolding verdict_by_set
      by_note h = rw (permitted_before asked notes h)

      pub noted : (j : Judgement) → j ≡ verdict_by_set who issuer book table links k set up wildcard → j ≡ Permitted → Asked who issuer book table links (put asked n true)
      unfolding verdict_by_set
      noted j q h =
          now_asked asked notes (permits_it issuer k up (meaning who book table links (set_authorization book table links wildcard set)) (sym h ∙ q))
