-- Unpacking the word of a session gives the number and the values of the answer: each fits its field.
use Rattle.std.proofs.lemmas.Option.{none-some, same_Some}
use Rattle.std.specs.Prelude.{Option, None, Some}
use Prim.Native.Nat.{ℕ, ◌+◌, ◌^◌, ◌≤◌, ◌<◌}
use native.Mathlib.Omega.{arith}
use mathlib.Core.Path.{◌≡◌, refl}
use mathlib.Core.Bool.{Bool, true, false, cond}
use mathlib.Core.List.{[], ◌∷◌}
use lib.Dec.{eqb, ltb}
use lib.ListN.{length, length-append}
use borrow.Author.Tests.{eqb-true, ltb-true}
use Rattle.spec_limits.specs.Limits.{max_name_octets, max_records}
use Rattle.spec_octets.specs.Lists.{All, all_nil, all_cons}
use Rattle.spec_name.specs.Names.{Name, wire, GoodName}
use Rattle.spec_name.proofs.NameLaws.{GoodLabel}
use Rattle.spec_request.specs.Request.{base}
use Rattle.spec_request.proofs.RequestedNames.{good_base}
use Rattle.spec_rule.specs.declared.Judgement.TheVariants.{Permitted, UnknownCritical, NotGranted, TooManyAliases, Refused}
use Rattle.spec_rule.specs.Verdicts.{denial}
use Rattle.spec_rule.specs.declared.Denial.{Denial}
use Rattle.spec_answers.specs.Answers.{packed_judgement}
use Rattle.spec_answers.specs.Theorems.{Unpacked}
use Rattle.spec_answers.proofs.NumberBounds.{Fits}
use Rattle.spec_answers.proofs.JudgementUnpacks.{told_unpacks, fitting_unpacks}
use Rattle.spec_session.specs.declared.SessionAnswer.{SessionAnswer}
use Rattle.spec_session.specs.declared.SessionAnswer.TheVariants.{Asks, Judged, LookupFailed, NoVerdict}
use Rattle.spec_session.specs.Sessions.{of_record, verdict_of}
use Rattle.spec_session.specs.Steps.{session_code}
use Rattle.spec_session_words.specs.SessionWords.{packed_session}

abbrev pub FitsAnswer : SessionAnswer → Type 0
FitsAnswer (Asks o l) = (o < 2 ^ 16) × (l < 2 ^ 24)
FitsAnswer (Judged j) = Fits j
FitsAnswer LookupFailed = Unit {0}
FitsAnswer NoVerdict = Unit {0}

pub session_unpacks : (a : SessionAnswer) → FitsAnswer a → Unpacked (packed_session a) (session_code a)
unfolding packed_session packed_judgement session_code
session_unpacks (Asks o l) h = told_unpacks (session_code (Asks o l)) (omega arith) h.1 h.0 (omega arith)
session_unpacks (Judged j) h = fitting_unpacks j h
session_unpacks LookupFailed h = told_unpacks (session_code LookupFailed) (omega arith) (omega arith) (omega arith) (omega arith)
session_unpacks NoVerdict h = told_unpacks (session_code NoVerdict) (omega arith) (omega arith) (omega arith) (omega arith)

-- what is kept of a verdict: its number v, its record r, and u labels taken off
abbrev pub DeniedBy : ℕ → ℕ → ℕ → ℕ → Denial → Type 0
DeniedBy number v r u d = (v ≡ number) × (d ≡ denial 0 r u) × (r < max_records)

abbrev pub KeptAs : ℕ → ℕ → ℕ → SessionAnswer → Type 0
KeptAs v r u (Asks o l) = ⊥
KeptAs v r u (Judged Permitted) = v ≡ 0
KeptAs v r u (Judged (UnknownCritical d)) = DeniedBy 20 v r u d
KeptAs v r u (Judged (NotGranted d)) = DeniedBy 21 v r u d
KeptAs v r u (Judged (TooManyAliases d)) = DeniedBy 22 v r u d
KeptAs v r u (Judged (Refused q)) = ⊥
KeptAs v r u LookupFailed = v ≡ 23
KeptAs v r u NoVerdict = ⊥

module _ (v r u : ℕ) where
  abbrev Read : Option SessionAnswer → Type 0
  Read o = (a : SessionAnswer) → o ≡ Some a → KeptAs v r u a

  one : (b : SessionAnswer) → KeptAs v r u b → Read (Some b)
  one b h a e = rw (← same_Some b a e) h

  nothing : Read None
  nothing a e = absurd (none-some a e)

  either : (t : Bool) (o p : Option SessionAnswer) → (t ≡ true → Read o) → Read p → Read (cond t o p)
  either true o p h k = h refl
  either false o p h k = k

  by_record : (b : SessionAnswer) → (r < max_records → KeptAs v r u b) → Read (of_record r b)
  by_record b h = either (ltb r max_records) _ _ (λ e. one b (h (ltb-true r max_records e))) nothing

  pub kept_as_lem : (a : SessionAnswer) → verdict_of v r u ≡ Some a → KeptAs v r u a
  unfolding verdict_of
  kept_as_lem =
      either (eqb v 0) _ _ (λ e. one _ (eqb-true v 0 e))
      (either (eqb v 20) _ _ (λ e. by_record _ (λ h. (eqb-true v 20 e, refl, h)))
      (either (eqb v 21) _ _ (λ e. by_record _ (λ h. (eqb-true v 21 e, refl, h)))
      (either (eqb v 22) _ _ (λ e. by_record _ (λ h. (eqb-true v 22 e, refl, h)))
      (either (eqb v 23) _ _ (λ e. one _ (eqb-true v 23 e)) nothing))))

-- a label takes two octets or more, and the closing zero is one more
labels_short : (n : Name) → All GoodLabel n → length n + length n < length (wire n)
labels_short [] all_nil = omega arith
labels_short (l ∷ n) (all_cons g gs) = let rest = labels_short n gs in simp length-append (omega arith)

pub few_labels : (n : Name) → GoodName n → length (base n) ≤ 127
unfolding max_name_octets
few_labels n good = let (gs, short) = good_base n good in omega (arith, labels_short (base n) gs)
