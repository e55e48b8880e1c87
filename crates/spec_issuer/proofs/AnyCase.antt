-- Whether an issuer domain name is well formed doesn't depend on letter case.
use Prim.Native.Nat.{ℕ, ◌+◌, ◌<◌}
use Prim.Native.Char.{code}
use native.Mathlib.Omega.{arith}
use mathlib.Core.Path.{◌≡◌, refl}
use mathlib.Core.Logic.{inl, inr}
use mathlib.Core.Bool.{Bool, true, false, cond}
use mathlib.Core.List.{List, [], ◌∷◌, map}
use lib.Dec.{eqb}
use lib.ListN.{length-map}
use borrow.Author.Tests.{ne_eqb}
use Rattle.spec_octets.specs.Lists.{all, begins, ends}
use Rattle.spec_octets.specs.Octets.{is_letter_or_digit, hyphen, lower, lowered}
use Rattle.spec_octets.specs.Label.{is_letter_digit_hyphen, is_label, is_host_label}
use Rattle.spec_octets.specs.Pieces.{extend, split}
use Rattle.spec_octets.proofs.SmallLetters.{Lowers, lower_cases, lower_letter}
use Rattle.spec_issuer.specs.Issuer.{is_issuer}
use Rattle.spec_issuer.specs.Theorems.{IssuerInAnyCase}

-- no octet below the letters becomes one, or comes of one
lower_eqb : (c : ℕ) → c < 65 → (x : ℕ) → eqb (lower x) c ≡ eqb x c
lower_eqb c small x = go (lower_cases x)
  where
    go : Lowers x → eqb (lower x) c ≡ eqb x c
    go (inl e) = rw e
    go (inr k) = rw (k.2, ne_eqb (x + 32) c (λ e. omega arith), ne_eqb x c (λ e. omega arith))

lower_plain : (x : ℕ) → is_letter_digit_hyphen (lower x) ≡ is_letter_digit_hyphen x
unfolding is_letter_digit_hyphen
lower_plain x = rw (lower_letter x, lower_eqb hyphen (omega arith) x)

-- a map that a test does not see
module _ {A : Type 0} (f : A → A) (p : A → Bool) (unseen : (x : A) → p (f x) ≡ p x) where
  all_map : (xs : List A) → all p (map f xs) ≡ all p xs
  all_map [] = refl
  all_map (x ∷ xs) = rw (unseen x, all_map xs)

  begins_map : (xs : List A) → begins p (map f xs) ≡ begins p xs
  begins_map [] = refl
  begins_map (x ∷ xs) = unseen x

  ends_map : (xs : List A) → ends p (map f xs) ≡ ends p xs
  ends_map [] = refl
  ends_map (x ∷ []) = unseen x
  ends_map (x ∷ y ∷ xs) = ends_map (y ∷ xs)

lowered_label : (l : List ℕ) → is_host_label (lowered l) ≡ is_host_label l
unfolding is_host_label is_label
lowered_label l =
    rw (
      length-map l lower,
      all_map lower is_letter_digit_hyphen lower_plain l,
      begins_map lower is_letter_or_digit lower_letter l,
      ends_map lower is_letter_or_digit lower_letter l,
    )

split_lowered : (c : ℕ) → c < 65 → (s : List ℕ) → split c (lowered s) ≡ map lowered (split c s)
split_lowered c small [] = refl
split_lowered c small (x ∷ s) = rw (lower_eqb c small x, split_lowered c small s) (go (eqb x c) (split c s))
  where
    go : (t : Bool) (ps : List (List ℕ)) → cond t (◌∷◌ []) (extend (lower x)) (map lowered ps) ≡ map lowered (cond t (◌∷◌ []) (extend x) ps)
    go true ps = refl
    go false [] = refl
    go false (p ∷ ps) = refl

pub issuer_in_any_case : IssuerInAnyCase
unfolding is_issuer
issuer_in_any_case d =
    rw (length-map d lower, split_lowered (code ".") (omega arith) d, all_map lowered is_host_label lowered_label (split (code ".") d))
