-- Hexadecimal digits, and when a text of them is read.
use Rattle.std.proofs.lemmas.Option.{none-some, same_Some}
use Rattle.std.specs.Prelude.{None, Some}
use Prim.Native.Nat.{ℕ, ◌%◌, ◌≤◌, ◌<◌}
use native.Mathlib.Omega.{arith}
use mathlib.Core.Path.{◌≡◌, refl, ap}
use mathlib.Core.Logic.{◌↔◌, ◌≢◌, ◌⊎◌, inl, inr}
use mathlib.Core.Bool.{Bool, true, false, cond, not, ◌&&◌, ◌||◌, and-eq-true_iff, false≢true, or-true, and-false}
use mathlib.Core.List.{List, [], ◌∷◌, cons≢nil}
use lib.Dec.{leb, eqb}
use lib.ListN.{length}
use borrow.Author.Tests.{leb-true, le-leb, lt-leb, eqb-true, eq-eqb, not-true}
use Rattle.spec_octets.specs.Lists.{all, is_empty, begins, ends, All, all_nil, all_cons}
use Rattle.spec_octets.specs.Octets.{between, is_digit, is_upper, is_blank}
use Rattle.spec_octets.proofs.ListLaws.{or_eq_true, all_true}
use Rattle.spec_octets.proofs.SelectLaws.{selects_exactly}
use Rattle.spec_tlsa_line.specs.Hex.{is_hex_digit, hex_value, digits_of, paired, is_hex_text, hex_octets}
use Rattle.spec_tlsa_line.specs.Grammar.{HexDigit, PairsOf, pairs_end, pairs_more, HexField}
use Rattle.spec_tlsa_line.specs.Theorems.{HexDigits}

between_true : (low high x : ℕ) → (between low high x ≡ true) ↔ ((low ≤ x) × (x ≤ high))
between_true low high x = (
  λ e. let (l, h) = (and-eq-true_iff (leb low x) (leb x high)).0 e in (leb-true low x l, leb-true x high h),
  λ (l, h). (and-eq-true_iff (leb low x) (leb x high)).1 (le-leb low x l, le-leb x high h),
)

outside : (low high x : ℕ) → (x < low) ⊎ (high < x) → between low high x ≡ false
outside low high x (inl h) = rw (lt-leb low x h)
outside low high x (inr h) = rw (lt-leb x high h, and-false)

-- x is a digit, a capital letter A to F, or a small letter a to f
pub data Sort (x : ℕ) : Type 0 where
  decimal : 48 ≤ x → x ≤ 57 → Sort x
  capital : 65 ≤ x → x ≤ 70 → Sort x
  small : 97 ≤ x → x ≤ 102 → Sort x

sorted : (x : ℕ) → is_hex_digit x ≡ true → Sort x
unfolding is_hex_digit is_digit
sorted x e = last ((or_eq_true (between 48 57 x || between 65 70 x) (between 97 102 x)).0 e)
  where
    first : (between 48 57 x ≡ true) ⊎ (between 65 70 x ≡ true) → Sort x
    first (inl e) = let (l, h) = (between_true 48 57 x).0 e in decimal l h
    first (inr e) = let (l, h) = (between_true 65 70 x).0 e in capital l h

    last : (between 48 57 x || between 65 70 x ≡ true) ⊎ (between 97 102 x ≡ true) → Sort x
    last (inl e) = first ((or_eq_true (between 48 57 x) (between 65 70 x)).0 e)
    last (inr e) = let (l, h) = (between_true 97 102 x).0 e in small l h

sort_is : (x : ℕ) → Sort x → is_hex_digit x ≡ true
unfolding is_hex_digit is_digit
sort_is x (decimal l h) = rw ((between_true 48 57 x).1 (l, h))
sort_is x (capital l h) = rw ((between_true 65 70 x).1 (l, h), or-true)
sort_is x (small l h) = rw ((between_true 97 102 x).1 (l, h), or-true)

value_is : (x : ℕ) → Sort x → HexDigit (hex_value x) x
unfolding hex_value is_digit is_upper
value_is x (decimal l h) = rw ((between_true 48 57 x).1 (l, h)) (inl (omega arith, omega arith))
value_is x (capital l h) =
    rw (outside 48 57 x (inr (omega arith)), (between_true 65 90 x).1 (l, omega arith)) (inr (omega arith, omega arith, inr (omega arith)))
value_is x (small l h) =
    rw (outside 48 57 x (inr (omega arith)), outside 65 90 x (inr (omega arith))) (inr (omega arith, omega arith, inl (omega arith)))

digit_sort : (n x : ℕ) → HexDigit n x → Sort x
digit_sort n x (inl (few, is)) = decimal (omega arith) (omega arith)
digit_sort n x (inr (low, high, inl is)) = small (omega arith) (omega arith)
digit_sort n x (inr (low, high, inr is)) = capital (omega arith) (omega arith)

-- a digit has one number
one_number : (m n x : ℕ) → HexDigit m x → HexDigit n x → m ≡ n
one_number m n x (inl a) (inl b) = omega arith
one_number m n x (inl a) (inr (low, high, inl b)) = omega arith
one_number m n x (inl a) (inr (low, high, inr b)) = omega arith
one_number m n x (inr (low, high, inl a)) (inl b) = omega arith
one_number m n x (inr (low, high, inr a)) (inl b) = omega arith
one_number m n x (inr (low, high, inl a)) (inr (low', high', inl b)) = omega arith
one_number m n x (inr (low, high, inl a)) (inr (low', high', inr b)) = omega arith
one_number m n x (inr (low, high, inr a)) (inr (low', high', inl b)) = omega arith
one_number m n x (inr (low, high, inr a)) (inr (low', high', inr b)) = omega arith

pub hex_digits : HexDigits
hex_digits x n = (
  λ (e, is). rw is at (value_is x (sorted x e)),
  λ h. let s = digit_sort n x h in (sort_is x s, one_number (hex_value x) n x (value_is x s) h),
)

-- digits in pairs
pairs_read : (ds : List ℕ) → All (λ x. is_hex_digit x ≡ true) ds → length ds % 2 ≡ 0 → PairsOf (paired ds) ds
pairs_read [] digits even = pairs_end
pairs_read (a ∷ []) digits even = absurd (omega arith)
pairs_read (a ∷ b ∷ ds) (all_cons p (all_cons q digits)) even =
    pairs_more (hex_value a) (hex_value b) (value_is a (sorted a p)) (value_is b (sorted b q)) refl (pairs_read ds digits (omega arith))

pub record Read (v ds : List ℕ) : Type 0 where
  pub digits : All (λ x. is_hex_digit x ≡ true) ds
  pub even : length ds % 2 ≡ 0
  pub octets : paired ds ≡ v

pairs_stand : {v ds : List ℕ} → PairsOf v ds → Read v ds
pairs_stand pairs_end = record { digits = all_nil; even = refl; octets = refl }
pairs_stand (pairs_more {x} {a} {b} {v} {ds} h l p q is more) =
    let r = pairs_stand more in
    let first = (hex_digits a h).1 p in
    let second = (hex_digits b l).1 q in record {
      digits = all_cons first.0 (all_cons second.0 r.digits);
      even = longer r.even;
      octets = rw (first.1, second.1, ← is, r.octets);
    }
  where
    longer : length ds % 2 ≡ 0 → length (a ∷ b ∷ ds) % 2 ≡ 0
    longer e = omega arith

full : (v ds : List ℕ) → PairsOf v ds → (v ≢ []) ↔ (not (is_empty ds) ≡ true)
full v ds pairs_end = (λ n. absurd (n refl), λ e. absurd (false≢true e))
full v ds (pairs_more h l p q is more) = (λ n. refl, λ e. cons≢nil)

chosen : {A : Type 0} (t : Bool) (a b : A) → (cond t (Some a) None ≡ Some b) ↔ ((t ≡ true) × (a ≡ b))
chosen true a b = (λ e. (refl, same_Some a b e), λ h. ap Some h.1)
chosen false a b = (λ e. absurd (none-some b e), λ h. absurd (false≢true h.0))

not_blank_exactly : (x : ℕ) → (not (is_blank x) ≡ true) ↔ (is_blank x ≡ false)
not_blank_exactly x = (λ e. not-true (is_blank x) e, λ e. rw e)

-- where no white space comes first, a text is read exactly as its octets
pub hex_field : (s v : List ℕ) → begins is_blank s ≡ false → (hex_octets s ≡ Some v) ↔ HexField v s
unfolding hex_octets is_hex_text
hex_field s v first = (λ e. read ((chosen (is_hex_text s) (paired (digits_of s)) v).0 e), stand)
  where
    is_even : Bool
    is_even = eqb (length (digits_of s) % 2) 0

    Tests : Type 0
    Tests = (all is_hex_digit (digits_of s) ≡ true) × (is_even ≡ true) × (not (is_empty (digits_of s)) ≡ true) × (not (ends is_blank s) ≡ true)

    tests : (is_hex_text s ≡ true) ↔ Tests
    tests = (
      λ e.
          let (front, last) = (and-eq-true_iff (all is_hex_digit (digits_of s) && is_even && not (is_empty (digits_of s))) (not (ends is_blank s))).0 e in
          let (pairs, filled) = (and-eq-true_iff (all is_hex_digit (digits_of s) && is_even) (not (is_empty (digits_of s)))).0 front in
          let (digits, even) = (and-eq-true_iff (all is_hex_digit (digits_of s)) is_even).0 pairs in
          (digits, even, filled, last),
      λ (digits, even, filled, last). rw (digits, even, filled, last),
    )

    read : (is_hex_text s ≡ true) × (paired (digits_of s) ≡ v) → HexField v s
    read (t, is) =
        let (digits, even, filled, last) = tests.0 t in
        let pairs : PairsOf v (digits_of s) = rw is at (pairs_read (digits_of s) ((all_true is_hex_digit (digits_of s)).0 digits) (eqb-true _ 0 even)) in (
          (full v (digits_of s) pairs).1 filled,
          first,
          not-true (ends is_blank s) last,
          (digits_of s, (selects_exactly _ not_blank_exactly s (digits_of s)).0 refl, pairs),
        )

    stand : HexField v s → hex_octets s ≡ Some v
    stand (filled, clean, last, (ds, selects, pairs)) =
        let is : digits_of s ≡ ds = (selects_exactly _ not_blank_exactly s ds).1 selects in
        let r = pairs_stand pairs in
        (chosen (is_hex_text s) (paired (digits_of s)) v).1 (
          tests.1 (
            rw is ((all_true is_hex_digit ds).1 r.digits),
            rw is (eq-eqb (length ds % 2) 0 r.even),
            rw is ((full v ds pairs).0 filled),
            rw last,
          ),
          rw is r.octets,
        )
