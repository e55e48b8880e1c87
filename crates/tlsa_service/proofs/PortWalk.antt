-- Reading a port digit by digit: the value so far and the remaining digits give the result.
use Prim.Native.Nat.{ℕ, ◌+◌, ◌-◌, ◌*◌, ◌≤◌, ◌<◌}
use Prim.Native.Char.{code}
use native.Mathlib.Omega.{arith}
use mathlib.Core.Path.{◌≡◌, refl, sym, ◌∙◌}
use mathlib.Core.Bool.{Bool, true, false, ◌&&◌, and-false, and-eq-true_iff, or-true}
use mathlib.Core.Logic.{◌⊎◌, inl, inr}
use mathlib.Core.List.{List, [], ◌∷◌}
use lib.Dec.{leb, eqb}
use lib.ListN.{length, get_or, drop, drop_of_length-le}
use mir.Syntax.{w64}
use mir.Val.{Fits}
use borrow.Author.Tests.{leb-true, le-leb, lt-leb, ne_eqb}
use Rattle.spec_octets.specs.Lists.{all}
use Rattle.spec_octets.specs.Octets.{is_digit}
use Rattle.spec_octets.specs.Decimal.{decimal_from}
use Rattle.spec_octets.proofs.Walks.{drop_step}
use Rattle.spec_tlsa.specs.Owners.{max_port, is_port}

-- the number that the digits read so far stand for is n, and s is left
abbrev pub port_left : ℕ → List ℕ → Bool
port_left n s = all is_digit s && leb (decimal_from n s) max_port

-- what the code knows of a digit
module _ (r : Bool) (x : ℕ) (told : r ≡ is_digit x) (h : r ≡ true) where
  digit_bounds : (48 ≤ x) × (x ≤ 57)
  unfolding is_digit
  digit_bounds =
      let k = (and-eq-true_iff (leb 48 x) (leb x 57)).0 (sym told ∙ h) in
      (leb-true 48 x k.0, leb-true x 57 k.1)

  pub digit_low : 48 ≤ x
  digit_low = digit_bounds.0

  pub digit_fits : Fits w64 (x - 48)
  digit_fits = record { fits = omega (arith, digit_bounds) }

  pub number_fits : (n : ℕ) → n ≤ 65535 → Fits w64 (n * 10 + (x - 48))
  number_fits n small = record { fits = omega (arith, digit_bounds) }

module _ (s : List ℕ) where
  pub bad_length : (length s ≡ 0) ⊎ ((length s ≡ 0 → ⊥) × (5 < length s)) → false ≡ is_port s
  unfolding is_port
  bad_length (inl e) = rw e
  bad_length (inr h) = rw (lt-leb (length s) 5 h.1, and-false)

-- a zero stands alone
pub zero_alone : (s : List ℕ) → (length s ≡ 0 → ⊥) → length s ≤ 5 → get_or s 0 0 ≡ 48 → eqb (length s) 1 ≡ is_port s
unfolding is_port max_port is_digit
zero_alone [] full few e = absurd (full refl)
zero_alone (x ∷ []) full few e = rw e
zero_alone (x ∷ y ∷ s) full few e = rw (e, ne_eqb (length (48 ∷ y ∷ s)) 1 (λ z. omega arith), and-false)

pub digits_start : (s : List ℕ) → (length s ≡ 0 → ⊥) → length s ≤ 5 → (get_or s 0 0 ≡ 48 → ⊥) → is_port s ≡ port_left 0 (drop 0 s)
unfolding is_port
digits_start [] full few n = absurd (full refl)
digits_start (x ∷ s) full few n =
    rw (le-leb 1 (length (x ∷ s)) (omega arith), le-leb (length (x ∷ s)) 5 few, ne_eqb (code "0") x (λ z. n (sym z)), or-true)
    (kept (all is_digit (x ∷ s)) (leb (decimal_from 0 (x ∷ s)) max_port))
  where
    kept : (t u : Bool) → t && true && u ≡ t && u
    kept true u = refl
    kept false u = refl

-- the number grows with each digit
grows : (n : ℕ) (l : List ℕ) → n ≤ decimal_from n l
grows n [] = omega arith
grows n (x ∷ l) = omega (arith, grows (n * 10 + (x - 48)) l)

module _ (s : List ℕ) (n i : ℕ) (left : is_port s ≡ port_left n (drop i s)) where
  pub digits_end : n ≤ 65535 → length s ≤ i → true ≡ is_port s
  unfolding max_port
  digits_end small h = sym (left ∙ rw (drop_of_length-le s h, le-leb n 65535 small))

  module _ (r : Bool) (h : i < length s) (told : r ≡ is_digit (get_or s i 0)) where
    pub no_digit : r ≡ false → false ≡ is_port s
    no_digit e = sym (left ∙ rw (drop_step 0 s i (i + 1) h, ← told, e))

    pub digits_turn : (m j : ℕ) → r ≡ true → m ≡ n * 10 + (get_or s i 0 - 48) → j ≡ i + 1 → is_port s ≡ port_left m (drop j s)
    digits_turn m j e grown next = left ∙ rw (drop_step 0 s i j h next, ← told, e, grown)

    pub number_over : (d : ℕ) → r ≡ true → d ≡ get_or s i 0 - 48 → 65535 < n * 10 + d → false ≡ is_port s
    unfolding max_port
    number_over d e digit over =
        let rest = drop (i + 1) s in
        sym (digits_turn (n * 10 + d) (i + 1) e (rw digit) refl ∙ rw (lt-leb (decimal_from (n * 10 + d) rest) 65535 (omega (arith, grows (n * 10 + d) rest)), and-false))
