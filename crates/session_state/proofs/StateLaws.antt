-- The ways out of kept_verdict and of state.
use Rattle.std.specs.Prelude.{Option, None, Some}
use Prim.Native.Nat.{ℕ, ◌≤◌, ◌<◌}
use native.Mathlib.Omega.{arith}
use mathlib.Core.Path.{◌≡◌, refl, ap, sym, ◌∙◌}
use mathlib.Core.Bool.{Bool, true, false, cond, ◌&&◌}
use lib.Dec.{eqb}
use lib.ListN.{length, drop}
use borrow.Author.Tests.{eq-eqb, ne_eqb, lt-ltb, le-ltb}
use Rattle.spec_limits.specs.Limits.{max_records}
use Rattle.spec_name.specs.Names.{Name}
use Rattle.spec_request.specs.Request.{base}
use Rattle.spec_rule.specs.declared.Judgement.TheVariants.{Permitted, UnknownCritical, NotGranted, TooManyAliases}
use Rattle.spec_rule.specs.Verdicts.{denial}
use Rattle.spec_session.specs.declared.Session.{Session}
use Rattle.spec_session.specs.declared.SessionAnswer.{SessionAnswer}
use Rattle.spec_session.specs.declared.SessionAnswer.TheVariants.{Asks, Judged, LookupFailed, NoVerdict}
use Rattle.spec_session.specs.Sessions.{held, is_kept, asking, decided, is_asking, asked, verdict_of, standing, state_from, state}
use Rattle.spec_session.proofs.Kept.{broken_is_ended}
use Rattle.spec_session.proofs.StepLaws.{asks, asks_nothing, state_tells}
use Rattle.session_kept.specs.declared.Place.{Place}
use Rattle.session_kept.specs.Places.{kept_at}
use Rattle.session_check.proofs.KeptLaws.{place_of, broken, at_place}
use Rattle.session_state.specs.Verdicts.{or_no_verdict}

module _ (v r u : ℕ) where
  pub is_0 : v ≡ 0 → Judged Permitted ≡ or_no_verdict (verdict_of v r u)
  unfolding verdict_of
  is_0 e = rw e

  pub is_20 : r < max_records → v ≡ 20 → Judged (UnknownCritical (denial 0 r u)) ≡ or_no_verdict (verdict_of v r u)
  unfolding verdict_of
  is_20 h e = rw (e, lt-ltb r max_records h) refl

  pub is_21 : r < max_records → v ≡ 21 → Judged (NotGranted (denial 0 r u)) ≡ or_no_verdict (verdict_of v r u)
  unfolding verdict_of
  is_21 h e = rw (e, lt-ltb r max_records h) refl

  pub is_22 : r < max_records → v ≡ 22 → Judged (TooManyAliases (denial 0 r u)) ≡ or_no_verdict (verdict_of v r u)
  unfolding verdict_of
  is_22 h e = rw (e, lt-ltb r max_records h) refl

  pub is_23 : v ≡ 23 → LookupFailed ≡ or_no_verdict (verdict_of v r u)
  unfolding verdict_of
  is_23 e = rw e

  pub is_beyond : (v ≡ 0 → ⊥) → (v ≡ 23 → ⊥) → max_records ≤ r → NoVerdict ≡ or_no_verdict (verdict_of v r u)
  unfolding verdict_of
  is_beyond a b h = rw (ne_eqb v 0 a, ne_eqb v 23 b, le-ltb r max_records h) (go (eqb v 20) (eqb v 21) (eqb v 22))
    where
      go : (x y z : Bool) → NoVerdict ≡ or_no_verdict (cond x None (cond y None (cond z None None)))
      go true y z = refl
      go false true z = refl
      go false false true = refl
      go false false false = refl

  pub is_none :
      (v ≡ 0 → ⊥) → (v ≡ 23 → ⊥) → (v ≡ 20 → ⊥) → (v ≡ 21 → ⊥) → (v ≡ 22 → ⊥) → NoVerdict ≡ or_no_verdict (verdict_of v r u)
  unfolding verdict_of
  is_none a b c d e = rw (ne_eqb v 0 a, ne_eqb v 20 c, ne_eqb v 21 d, ne_eqb v 22 e, ne_eqb v 23 b)

both_true : {a b : Bool} → a ≡ true → b ≡ true → a && b ≡ true
both_true e f = rw (e, f) refl

name_told :
    (s : Session) (p : Place) (n : Name) → p ≡ place_of (length (held s.name)) n s.up → asked s ≡ Some (drop s.up (base n)) →
    Asks p.offset p.length ≡ state s
unfolding state
name_told s p n e f = rw (e, f) refl

module _ (s : Session) (q : Option Place) (f : q ≡ kept_at s) where
  pub says_nothing : q ≡ None → NoVerdict ≡ state s
  says_nothing e =
      let (no_name, no-verdict) = broken_is_ended s (broken s (sym f ∙ e)) in
      sym ((state_tells s).2 no_name no-verdict)

  module _ (p : Place) (e : q ≡ Some p) where
    keeps : is_kept s ≡ true
    keeps = (at_place s p (sym f ∙ e)).0

    pub says_name : s.phase ≡ 1 → Asks p.offset p.length ≡ state s
    unfolding is_asking asking
    says_name h =
        let (n, name, place) = (at_place s p (sym f ∙ e)).1 in
        name_told s p n place (asks s n (both_true (eq-eqb s.phase 1 h) keeps) name)

    no_name : (s.phase ≡ 1 → ⊥) → asked s ≡ None
    unfolding is_asking asking
    no_name h = asks_nothing s (rw (ne_eqb s.phase 1 h) refl)

    pub says_neither : (s.phase ≡ 1 → ⊥) → (s.phase ≡ 2 → ⊥) → NoVerdict ≡ state s
    unfolding standing decided
    says_neither h k = sym ((state_tells s).2 (no_name h) (rw (ne_eqb s.phase 2 k) refl))

    stands : s.phase ≡ 2 → standing s ≡ verdict_of s.verdict s.rr s.up
    unfolding standing decided
    stands h = ap (λ t. cond t (verdict_of s.verdict s.rr s.up) None) (both_true (eq-eqb s.phase 2 h) keeps)

    pub says_verdict : s.phase ≡ 2 → (v : SessionAnswer) → v ≡ or_no_verdict (verdict_of s.verdict s.rr s.up) → v ≡ state s
    unfolding state
    says_verdict k v g = g ∙ sym (rw (no_name (λ h. omega arith), stands k) (go (verdict_of s.verdict s.rr s.up)))
      where
        go : (o : Option SessionAnswer) → state_from (length (held s.name)) None o ≡ or_no_verdict o
        go None = refl
        go (Some v) = refl
