-- The ways out of `kept`, one text after the other.
use Rattle.session_kept.specs.declared.Place.{Place}
use Rattle.std.specs.Prelude.{None, Some, Result, Option}
use Rattle.std.specs.Result.{result_ok}
use Prim.Native.Nat.{ℕ}
use native.Mathlib.Omega.{arith}
use mathlib.Core.Path.{◌≡◌, refl}
use mathlib.Core.Bool.{Bool, true, false, cond}
use mathlib.Core.List.{List}
use Rattle.spec_refusal.specs.declared.Refusal.{Refusal}
use Rattle.spec_refusal.specs.declared.Refusal.TheVariants.{BadAccountOrMethod}
use Rattle.spec_refusal.specs.Checks.{checked}
use Rattle.spec_issuer.specs.Issuer.{is_issuer}
use Rattle.spec_applicant.specs.Applicant.{is_applicant, applicant_refusal}
use Rattle.spec_session.specs.declared.Session.{Session}
use Rattle.spec_session.specs.Sessions.{held, kept_applicant}
use Rattle.session_kept.specs.Places.{name_above, kept_at}

module _ (s : Session) (i : List ℕ) (h : i ≡ held s.issuer) (b : Bool) (f : b ≡ is_issuer i) where
  pub bad_issuer : b ≡ false → None ≡ kept_at s
  unfolding kept_at
  bad_issuer e = rw (← h, ← f, e)

  module _ (e : b ≡ true) (a m : List ℕ) (j : a ≡ held s.account) (k : m ≡ held s.method) (q : Result Unit Refusal)
      (g : q ≡ checked (applicant_refusal (record { account = a; method = m }))) where
    said : q ≡ checked (applicant_refusal (record { account = held s.account; method = held s.method }))
    said = rw (j, k) at g

    pub bad_applicant : result_ok q ≡ None → None ≡ kept_at s
    unfolding applicant_refusal kept_at kept_applicant
    bad_applicant n = rw (← h, ← f, e) (go (is_applicant (record { account = held s.account; method = held s.method })) said)
      where
        go : (t : Bool) → q ≡ checked (cond t None (Some BadAccountOrMethod)) → None ≡ cond t (name_above (held s.name) s.up) None
        go true z = let w : ◌≡◌ {A = ℕ} 0 1 = cc in absurd (omega arith)
        go false z = refl

    pub good_texts : (u : Unit) → result_ok q ≡ Some u → (n : List ℕ) → n ≡ held s.name → (r : Option Place) → r ≡ name_above n s.up → r ≡ kept_at s
    unfolding applicant_refusal kept_at kept_applicant
    good_texts u v n l r o =
        rw (← h, ← f, e) (go (is_applicant (record { account = held s.account; method = held s.method })) said)
      where
        go : (t : Bool) → q ≡ checked (cond t None (Some BadAccountOrMethod)) → r ≡ cond t (name_above (held s.name) s.up) None
        go true z = rw l at o
        go false z = let w : ◌≡◌ {A = ℕ} 0 1 = cc in absurd (omega arith)
