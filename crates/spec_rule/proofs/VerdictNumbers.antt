-- The verdict in the requirements' numbers.
use Prim.Native.Nat.{ℕ}
use native.Mathlib.Omega.{arith}
use mathlib.Core.Path.{◌≡◌, refl, sym, ap, ◌∙◌}
use mathlib.Core.Logic.Iff
use mathlib.Core.Logic.{◌↔◌, ◌≢◌, ◌⊎◌, inl, inr}
use lib.ListN.{get_or}
use Rattle.spec_refusal.specs.declared.Refusal.{Refusal}
use Rattle.spec_rule.specs.declared.Denial.{Denial}
use Rattle.spec_rule.specs.declared.Judgement.{Judgement}
use Rattle.spec_rule.specs.declared.Judgement.TheVariants.{Permitted, UnknownCritical, NotGranted, TooManyAliases, Refused}
use Rattle.spec_rule.specs.Verdicts.{denial}
use Rattle.spec_rule.specs.Calls.{AnswerCode, judgement_code}
use Rattle.spec_rule.specs.Theorems.{VerdictNumbers}

abbrev NoRefusal : Judgement → Type 0
NoRefusal v = (r : Refusal) → v ≢ Refused r

-- each judgement as a number of its own, to tell them apart
abbrev kind : Judgement → ℕ
kind Permitted = 0
kind (UnknownCritical d) = 1
kind (NotGranted d) = 2
kind (TooManyAliases d) = 3
kind (Refused r) = 4

-- the three numbers of a denial are all of it
same_denial : (c d : Denial) → c.name.0 ≡ d.name.0 → c.rr.0 ≡ d.rr.0 → c.up.0 ≡ d.up.0 → c ≡ d
same_denial c d a b u = rw (a, b, u) refl

-- a judgement that is no refusal is known by its number and values
known : (v w : Judgement) → NoRefusal v → NoRefusal w → judgement_code v ≡ judgement_code w → v ≡ w
unfolding judgement_code
known (Refused r) w h k e = absurd (h r refl)
known Permitted Permitted h k e = refl
known Permitted (UnknownCritical d) h k e = absurd (omega (arith, ap (λ (c : AnswerCode). c.number) e))
known Permitted (Refused r) h k e = absurd (k r refl)
known Permitted (NotGranted d) h k e = absurd (omega (arith, ap (λ (c : AnswerCode). c.number) e))
known Permitted (TooManyAliases d) h k e = absurd (omega (arith, ap (λ (c : AnswerCode). c.number) e))
known (UnknownCritical c) Permitted h k e = absurd (omega (arith, ap (λ (c : AnswerCode). c.number) e))
known (UnknownCritical c) (UnknownCritical d) h k e =
    ap UnknownCritical (same_denial c d (ap (λ (c : AnswerCode). get_or c.values 0 0) e) (ap (λ (c : AnswerCode). get_or c.values 1 0) e) (ap (λ (c : AnswerCode). get_or c.values 2 0) e))
known (UnknownCritical c) (Refused r) h k e = absurd (k r refl)
known (UnknownCritical c) (NotGranted d) h k e = absurd (omega (arith, ap (λ (c : AnswerCode). c.number) e))
known (UnknownCritical c) (TooManyAliases d) h k e = absurd (omega (arith, ap (λ (c : AnswerCode). c.number) e))
known (NotGranted c) (Refused r) h k e = absurd (k r refl)
known (NotGranted c) Permitted h k e = absurd (omega (arith, ap (λ (c : AnswerCode). c.number) e))
known (NotGranted c) (UnknownCritical d) h k e = absurd (omega (arith, ap (λ (c : AnswerCode). c.number) e))
known (NotGranted c) (TooManyAliases d) h k e = absurd (omega (arith, ap (λ (c : AnswerCode). c.number) e))
known (TooManyAliases c) (Refused r) h k e = absurd (k r refl)
known (TooManyAliases c) Permitted h k e = absurd (omega (arith, ap (λ (c : AnswerCode). c.number) e))
known (TooManyAliases c) (UnknownCritical d) h k e = absurd (omega (arith, ap (λ (c : AnswerCode). c.number) e))
known (TooManyAliases c) (NotGranted d) h k e = absurd (omega (arith, ap (λ (c : AnswerCode). c.number) e))
known (TooManyAliases c) (TooManyAliases d) h k e =
    ap TooManyAliases (same_denial c d (ap (λ (c : AnswerCode). get_or c.values 0 0) e) (ap (λ (c : AnswerCode). get_or c.values 1 0) e) (ap (λ (c : AnswerCode). get_or c.values 2 0) e))
known (NotGranted c) (NotGranted d) h k e =
    ap NotGranted (same_denial c d (ap (λ (c : AnswerCode). get_or c.values 0 0) e) (ap (λ (c : AnswerCode). get_or c.values 1 0) e) (ap (λ (c : AnswerCode). get_or c.values 2 0) e))

-- so a code that is w's tells that it is w
told : (v w : Judgement) (c : AnswerCode) → NoRefusal v → NoRefusal w → judgement_code w ≡ c → (judgement_code v ≡ c) ↔ (v ≡ w)
told v w c h k is = (λ e. known v w h k (e ∙ sym is), λ e. ap judgement_code e ∙ is)

apart : (v : Judgement) → kind v ≢ 4 → NoRefusal v
apart v h r e = h (ap kind e)

numbers : (v : Judgement) → NoRefusal v → ((judgement_code v).number ≡ 0) ⊎ ((judgement_code v).number ≡ 20) ⊎ ((judgement_code v).number ≡ 21) ⊎ ((judgement_code v).number ≡ 22)
unfolding judgement_code
numbers Permitted h = inl refl
numbers (UnknownCritical d) h = inr (inl refl)
numbers (NotGranted d) h = inr (inr (inl refl))
numbers (TooManyAliases d) h = inr (inr (inr refl))
numbers (Refused r) h = absurd (h r refl)

pub verdict_numbers : VerdictNumbers
unfolding judgement_code
verdict_numbers who book ns d v (permitted, critical, ungranted, too_many, no_refusal) = (
  Iff.trans (told v Permitted _ no_refusal (apart Permitted (λ e. absurd (omega arith))) refl) permitted,
  λ k r u. Iff.trans (told v (UnknownCritical (denial k r u)) _ no_refusal (apart (UnknownCritical (denial k r u)) (λ e. absurd (omega arith))) refl) (critical k r u),
  λ k r u. Iff.trans (told v (NotGranted (denial k r u)) _ no_refusal (apart (NotGranted (denial k r u)) (λ e. absurd (omega arith))) refl) (ungranted k r u),
  λ k r u. Iff.trans (told v (TooManyAliases (denial k r u)) _ no_refusal (apart (TooManyAliases (denial k r u)) (λ e. absurd (omega arith))) refl) (too_many k r u),
  numbers v no_refusal,
)
