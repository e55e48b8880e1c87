-- The ways out of is_asking and of fail.
use Rattle.std.specs.Prelude.{Option, Some, None, is_some}
use mathlib.Core.Path.{◌≡◌, refl, ap, sym, ◌∙◌}
use mathlib.Core.Bool.{Bool, true, false}
use lib.Dec.{eqb}
use borrow.Author.Tests.{eq-eqb, ne_eqb}
use Rattle.spec_refusal.specs.declared.Refusal.TheVariants.{SessionEnded}
use Rattle.spec_rule.specs.declared.Judgement.TheVariants.{Refused}
use Rattle.spec_session.specs.declared.Session.{Session}
use Rattle.spec_session.specs.declared.Stepped.{Stepped}
use Rattle.spec_session.specs.declared.SessionAnswer.TheVariants.{Judged}
use Rattle.spec_session.specs.Sessions.{is_kept, asking, is_asking}
use Rattle.spec_session.specs.Steps.{ended_refusal, goes_to, closed_with, failed}
use Rattle.session_kept.specs.declared.Place.{Place}
use Rattle.session_kept.specs.Places.{kept_at}
use Rattle.session_check.proofs.KeptLaws.{broken, at_place}

module _ (s : Session) where
  pub other_phase : (s.phase ≡ 1 → ⊥) → eqb s.phase 1 ≡ is_asking s
  unfolding is_asking asking
  other_phase h = rw (ne_eqb s.phase 1 h) refl

  pub by_texts : s.phase ≡ 1 → (q : Option Place) → q ≡ kept_at s → is_some q ≡ is_asking s
  unfolding is_asking asking
  by_texts h q f = rw (eq-eqb s.phase 1 h) (go q refl)
    where
      go : (o : Option Place) → q ≡ o → is_some o ≡ is_kept s
      go None e = sym (broken s (sym f ∙ e))
      go (Some p) e = sym (at_place s p (sym f ∙ e)).0

  module _ (b : Bool) (f : b ≡ is_asking s) where
    pub fails_not : b ≡ false → ◌≡◌ {A = Stepped} (record { answer = Judged (Refused SessionEnded); session = s }) (failed s)
    unfolding failed ended_refusal
    fails_not e = rw (← f, e) refl

    pub fails_so : b ≡ true → (t : Session) → t ≡ closed_with 23 0 s → (r : Stepped) → r ≡ goes_to t → r ≡ failed s
    unfolding failed ended_refusal
    fails_so e t g r h = rw (← f, e) (h ∙ ap goes_to g)
