-- When each reader succeeds, and with which value.
use Rattle.std.proofs.lemmas.Option.{same_Some, none-some}
use Rattle.std.specs.Prelude.{Option, None, Some}
use Prim.Native.Nat.{ℕ}
use native.Mathlib.Omega.{arith}
use mathlib.Core.Path.{◌≡◌, refl, sym, ap}
use mathlib.Core.Logic.{◌↔◌, ◌≢◌}
use mathlib.Core.Bool.{Bool, true, false, cond}
use mathlib.Core.List.{List, [], ◌∷◌, ◌++◌}
use lib.Dec.{leb}
use lib.ListN.{length, take, drop, length-append, take-append-drop}
use lib.Seq.{length-take-le, take_at, drop_at}
use borrow.Author.Tests.{leb-true, le-leb}
use Rattle.spec_octets.specs.Reader.{Reader, pure, given, and_then, ◌>>=◌, octet, octets}
use Rattle.spec_octets.specs.Pinned.{RemainderWhole}

module _ {A : Type 0} where
  -- what can't have found anything has found nothing
  pub nothing_found : (o : Option A) → ((a : A) → o ≡ Some a → ⊥) → o ≡ None
  nothing_found None bad = refl
  nothing_found (Some a) bad = absurd (bad a refl)

  -- an answer about what was found is a fault exactly where nothing was, if what tells of a value is never that fault
  pub fault_told : {B : Type 0} (told : Option A → B) (o : Option A) → ((a : A) → told (Some a) ≢ told None) → (told o ≡ told None) ↔ (o ≡ None)
  fault_told told None apart = (λ e. refl, λ e. refl)
  fault_told told (Some a) apart = (λ e. absurd (apart a e), λ e. absurd (none-some a (sym e)))

  -- also: both parts of an equation between two found values
  pub pure_some : (a b : A) (s rest : List ℕ) → (pure a s ≡ Some (b, rest)) ↔ ((a ≡ b) × (s ≡ rest))
  pure_some a b s rest = (λ h. parts (same_Some _ _ h), λ h. let (p, q) = h in cc)
    where
      parts : ◌≡◌ {A = A × List ℕ} (a, s) (b, rest) → (a ≡ b) × (s ≡ rest)
      parts e = (ap (λ (r : A × List ℕ). r.0) e, ap (λ (r : A × List ℕ). r.1) e)

  pub given_some : (t : Bool) (a b : A) (s rest : List ℕ) → (given t a s ≡ Some (b, rest)) ↔ ((t ≡ true) × (a ≡ b) × (s ≡ rest))
  given_some true a b s rest = (λ h. let (p, q) = (pure_some a b s rest).0 h in (refl, p, q), λ h. (pure_some a b s rest).1 (h.1, h.2))
  given_some false a b s rest = (λ h. absurd (none-some _ h), λ h. let t = h.0 in let z : ◌≡◌ {A = ℕ} 0 1 = cc in absurd (omega arith))

module _ {A B : Type 0} where
  pub bind_some :
      (p : Reader A) (f : A → Reader B) (s : List ℕ) (b : B) (rest : List ℕ) →
      ((p >>= f) s ≡ Some (b, rest)) ↔ ((a : A) × (mid : List ℕ) × (p s ≡ Some (a, mid)) × (f a mid ≡ Some (b, rest)))
  bind_some p f s b rest = (λ h. go (p s) refl h, λ h. rw h.2 h.3)
    where
      go :
          (o : Option (A × List ℕ)) → p s ≡ o → and_then o f ≡ Some (b, rest) →
          (a : A) × (mid : List ℕ) × (p s ≡ Some (a, mid)) × (f a mid ≡ Some (b, rest))
      go None e h = absurd (none-some _ h)
      go (Some r) e h = (r.0, r.1, e, h)

pub octet_some : (s : List ℕ) (x : ℕ) (rest : List ℕ) → (octet s ≡ Some (x, rest)) ↔ (s ≡ x ∷ rest)
octet_some [] x rest = (λ h. absurd (none-some _ h), λ h. let z : ◌≡◌ {A = ℕ} 0 1 = cc in absurd (omega arith))
octet_some (y ∷ s) x rest = (λ h. let (p, q) = (pure_some y x s rest).0 h in cc, λ h. cc)

pub octets_some : (n : ℕ) (s a rest : List ℕ) → (octets n s ≡ Some (a, rest)) ↔ ((s ≡ a ++ rest) × (length a ≡ n))
octets_some n s a rest = (λ h. found (leb n (length s)) refl h, λ h. stands h.0 h.1)
  where
    found :
        (t : Bool) → leb n (length s) ≡ t → cond {A = Option (List ℕ × List ℕ)} t (Some (take n s, drop n s)) None ≡ Some (a, rest) →
        (s ≡ a ++ rest) × (length a ≡ n)
    found true e h =
        let (front, back) = (pure_some (take n s) a (drop n s) rest).0 h in
        (rw (← front, ← back) (sym (take-append-drop n s)), rw (← front) (length-take-le n s (leb-true _ _ e)))
    found false e h = absurd (none-some _ h)

    stands : s ≡ a ++ rest → length a ≡ n → octets n s ≡ Some (a, rest)
    stands e l = rw (e, le-leb n (length (a ++ rest)) (rw length-append (omega arith)), take_at a rest n l, drop_at a rest n l) refl

pub remainder_whole : RemainderWhole
remainder_whole s = refl
