-- A label by its first octet, its last and all of them, as code tests it.
use Prim.Native.Nat.{ℕ, ◌-◌}
use native.Mathlib.Omega.{arith}
use mathlib.Core.Path.{◌≡◌, refl, sym}
use mathlib.Core.Bool.{Bool, true, false, and-false}
use mathlib.Core.List.{List, [], ◌∷◌, ◌++◌}
use lib.ListN.{length, get_or, length-append}
use lib.Seq.{get_or_at}
use Rattle.spec_octets.specs.Lists.{all, ends}
use Rattle.spec_octets.specs.Octets.{is_letter_or_digit, hyphen}
use Rattle.spec_octets.specs.Label.{is_letter_digit_hyphen, is_label}
use Rattle.spec_octets.proofs.ListLaws.{all_true}
use Rattle.spec_octets.proofs.Labels.{label_parts, begins_without, ends_without, hyphen_is_neither}

-- the last element passes where the one at the last place does
pub ends_at : {A : Type 0} (p : A → Bool) (d x : A) (xs : List A) → ends p (x ∷ xs) ≡ p (get_or (x ∷ xs) (length xs) d)
ends_at p d x [] = refl
ends_at p d x (y ∷ xs) = ends_at p d y xs

pub empty_no_label : (l : List ℕ) → length l ≡ 0 → false ≡ is_label l
unfolding is_label
empty_no_label [] e = refl
empty_no_label (x ∷ l) e = absurd (omega arith)

pub first_no_label : (l : List ℕ) → get_or l 0 0 ≡ hyphen → false ≡ is_label l
unfolding is_label
first_no_label [] e = refl
first_no_label (x ∷ l) e = rw (e, hyphen_is_neither, and-false)

pub last_no_label : (l : List ℕ) → get_or l (length l - 1) 0 ≡ hyphen → false ≡ is_label l
unfolding is_label
last_no_label [] e = refl
last_no_label (x ∷ l) e =
    let place : length (x ∷ l) - 1 ≡ length l = omega arith in
    rw (ends_at is_letter_or_digit 0 x l, rw place at e, hyphen_is_neither, and-false)

ends_on : (l s : List ℕ) (x : ℕ) → l ≡ s ++ (x ∷ []) → get_or l (length l - 1) 0 ≡ x
ends_on l s x e = rw e (get_or_at s x [] 0 (length (s ++ (x ∷ [])) - 1) (omega (arith, length-append s (x ∷ []))))

is_label_lem : (l : List ℕ) → (length l ≡ 0 → ⊥) → (get_or l 0 0 ≡ hyphen → ⊥) → (get_or l (length l - 1) 0 ≡ hyphen → ⊥) →
    all is_letter_digit_hyphen l ≡ true → true ≡ is_label l
is_label_lem l some first last plain =
    let each = (all_true is_letter_digit_hyphen l).0 plain in
    sym ((label_parts l).1 (
      each,
      begins_without l (omega arith) each (λ s e. first (rw e)),
      ends_without l (omega arith) each (λ s e. last (ends_on l s hyphen e)),
    ))

octet_no_label : (l : List ℕ) → all is_letter_digit_hyphen l ≡ false → false ≡ is_label l
unfolding is_label
octet_no_label l e = rw e

pub label_by_octets : (l : List ℕ) → (length l ≡ 0 → ⊥) → (get_or l 0 0 ≡ hyphen → ⊥) → (get_or l (length l - 1) 0 ≡ hyphen → ⊥) →
    (t : Bool) → t ≡ all is_letter_digit_hyphen l → t ≡ is_label l
label_by_octets l some first last true e = is_label_lem l some first last (sym e)
label_by_octets l some first last false e = octet_no_label l (sym e)
