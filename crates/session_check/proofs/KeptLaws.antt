-- What the answer of `kept` says about the session, for its callers.
use Rattle.std.specs.Prelude.{Option, None, Some}
use Prim.Native.Nat.{ℕ, ◌-◌}
use native.Mathlib.Omega.{arith}
use mathlib.Core.Path.{◌≡◌, refl, ap, sym}
use mathlib.Core.Bool.{Bool, true, false, cond, ◌&&◌}
use lib.Dec.{ltb}
use lib.ListN.{length, drop}
use Rattle.spec_name.specs.Names.{Name, wire}
use Rattle.spec_request.specs.Request.{is_wildcard, base}
use Rattle.spec_issuer.specs.Issuer.{is_issuer}
use Rattle.spec_applicant.specs.Applicant.{is_applicant}
use Rattle.spec_session.specs.declared.Session.{Session}
use Rattle.spec_session.specs.Sessions.{held, kept_name, kept_applicant, reaches, is_kept}
use Rattle.session_kept.specs.declared.Place.{Place}
use Rattle.session_kept.specs.Places.{above_at, placed_at, placed_in, name_above, kept_at}

-- the name asked for is at the end of k octets, with u labels taken off the X of n
abbrev pub place_of : ℕ → Name → ℕ → Place
place_of k n u =
    record { offset = k - length (wire (drop u (base n))); length = length (wire (drop u (base n))); wildcard = is_wildcard n }

-- a name and two tests, as `kept_at` and `is_kept` put them together
abbrev Tells : ℕ → ℕ → Option Name → Option Place → Bool → Type 0
Tells k u o q t =
    (q ≡ None → t ≡ false) × ((p : Place) → q ≡ Some p → (t ≡ true) × ((n : Name) × (o ≡ Some n) × (p ≡ place_of k n u)))

not_both : {p : Place} {A : Type 0} → None ≡ Some p → A
not_both e = let z : ◌≡◌ {A = ℕ} 0 1 = cc in absurd (omega arith)

-- neither without the texts
untold : (k u : ℕ) (o : Option Name) (t : Bool) → t ≡ false → Tells k u o None t
untold k u o t f = (λ e. f, λ p e. not_both e)

last_false : (t : Bool) → t && false ≡ false
last_false true = refl
last_false false = refl

-- by whether a label is left
abbrev by : ℕ → ℕ → Name → Bool → Option Place
by k u n t =
    placed_at (is_wildcard n) (cond t (Some (record { offset = k - length (wire (drop u (base n))); length = length (wire (drop u (base n))) })) None)

named : (k u : ℕ) (n : Name) (t : Bool) → ltb u (length (base n)) ≡ t → placed_at (is_wildcard n) (above_at k (base n) u) ≡ by k u n t
unfolding above_at
named k u n t e = rw e

by_test : (k u : ℕ) (n : Name) (t : Bool) → Tells k u (Some n) (by k u n t) (t && true && true)
by_test k u n true = (λ e. not_both (sym e), λ p e. (refl, (n, refl, cc)))
by_test k u n false = untold k u (Some n) false refl

tells : (k u : ℕ) (o : Option Name) (i a : Bool) → Tells k u o (cond (i && a) (placed_in k u o) None) (reaches o u && i && a)
tells k u o true false = untold k u o (reaches o u && true && false) (last_false (reaches o u && true))
tells k u o false a = untold k u o (reaches o u && false && a) (ap (λ t. t && a) (last_false (reaches o u)))
tells k u None true true = untold k u None false refl
tells k u (Some n) true true = rw (named k u n (ltb u (length (base n))) refl) (by_test k u n (ltb u (length (base n))))

module _ (s : Session) where
  both : Tells (length (held s.name)) s.up (kept_name s) (kept_at s) (is_kept s)
  unfolding kept_at is_kept name_above kept_name
  both = tells (length (held s.name)) s.up (kept_name s) (is_issuer (held s.issuer)) (is_applicant (kept_applicant s))

  pub broken : kept_at s ≡ None → is_kept s ≡ false
  broken e = both.0 e

  pub at_place : (p : Place) → kept_at s ≡ Some p → (is_kept s ≡ true) × ((n : Name) × (kept_name s ≡ Some n) × (p ≡ place_of (length (held s.name)) n s.up))
  at_place p e = both.1 p e
