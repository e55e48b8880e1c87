-- Written octets by offsets: a law of escape_at and written_octet_at for each return of the code.
use Rattle.line_octet.specs.declared.WrittenOctetAt.{WrittenOctetAt}
use Rattle.std.specs.Prelude.{Option, None, Some}
use Prim.Native.Nat.{ℕ, ◌+◌, ◌-◌, ◌≤◌, ◌<◌}
use native.Mathlib.Omega.{arith}
use mathlib.Core.Path.{◌≡◌, refl, sym, ◌∙◌}
use mathlib.Core.Bool.{Bool, true, false, cond, ◌&&◌, and-false, or-false}
use mathlib.Core.List.{List, [], ◌∷◌}
use lib.Dec.{leb}
use lib.ListN.{length, take, drop, get_or, length-drop, drop_of_length-le}
use lib.Seq.{drop-drop}
use borrow.Author.Tests.{le-leb, lt-leb, ne_eqb}
use Rattle.spec_octets.specs.Octets.{is_digit}
use Rattle.spec_octets.specs.Decimal.{decimal_from, decimal_octet}
use Rattle.spec_octets.proofs.Walks.{drop_step}
use Rattle.spec_line.specs.Written.{backslash}
use Rattle.spec_line.specs.Read.{WrittenOctet, numbered, value_of, three_more, is_in_quotes, is_bare}
use Rattle.text_decimal.specs.Places.{decimal_in}
use Rattle.text_decimal.proofs.DecimalWalk.{octet_there, octet_missing}
use Rattle.line_octet.specs.declared.Style.{Style}
use Rattle.line_octet.specs.Places.{plain_in, escape_at, written_octet_at}

-- an octet that stands for itself between quotes does so bare too, but for a few
pub bare_in_quotes :
    (x : ℕ) (r : Bool) → r ≡ is_in_quotes x → 33 ≤ x → (x ≡ 59 → ⊥) → (x ≡ 40 → ⊥) → (x ≡ 41 → ⊥) → r ≡ is_bare x
unfolding is_in_quotes is_bare
bare_in_quotes x r told low a b c =
    told ∙ rw (le-leb 32 x (omega arith), le-leb 33 x low, ne_eqb x 59 a, ne_eqb x 40 b, ne_eqb x 41 c, or-false, or-false, or-false)

-- three digits, of which the first is known to be one, are an octet in decimal
module _ (x : ℕ) (digit : is_digit x ≡ true) where
  three_short : (l : List ℕ) → length l < 2 → three_more x l ≡ None
  three_short [] h = refl
  three_short (b ∷ []) h = refl
  three_short (b ∷ c ∷ l) h = absurd (omega arith)

  -- the same tests in another order
  same_test : (b c t : Bool) → true && (true && (b && (c && true))) && t ≡ b && c && t
  same_test true true t = refl
  same_test true false t = refl
  same_test false c t = refl

  three_missing : (l : List ℕ) → 2 ≤ length l → decimal_octet (take 3 (x ∷ l)) ≡ None → three_more x l ≡ None
  unfolding decimal_octet
  three_missing [] h e = refl
  three_missing (b ∷ []) h e = refl
  three_missing (b ∷ c ∷ l) h e = go _ (same_test (is_digit b) (is_digit c) _) (rw digit at e)
    where
      go :
          (t : Bool) → t ≡ is_digit b && is_digit c && leb (decimal_from 0 (x ∷ b ∷ c ∷ [])) 255 →
          cond {A = Option ℕ} t (Some (decimal_from 0 (x ∷ b ∷ c ∷ []))) None ≡ None → three_more x (b ∷ c ∷ l) ≡ None
      go true e k = let z : ◌≡◌ {A = ℕ} 0 1 = cc in absurd (omega arith)
      go false e k = rw (← e)

  three_there :
      (l : List ℕ) (n : ℕ) → 2 ≤ length l → decimal_octet (take 3 (x ∷ l)) ≡ Some n →
      (u : WrittenOctet) × (three_more x l ≡ Some (u, drop 2 l)) × (value_of u ≡ n)
  unfolding decimal_octet
  three_there [] n h e = absurd (omega arith)
  three_there (b ∷ []) n h e = absurd (omega arith)
  three_there (b ∷ c ∷ l) n h e = go _ (same_test (is_digit b) (is_digit c) _) (rw digit at e)
    where
      go :
          (t : Bool) → t ≡ is_digit b && is_digit c && leb (decimal_from 0 (x ∷ b ∷ c ∷ [])) 255 →
          cond {A = Option ℕ} t (Some (decimal_from 0 (x ∷ b ∷ c ∷ []))) None ≡ Some n →
          (u : WrittenOctet) × (three_more x (b ∷ c ∷ l) ≡ Some (u, l)) × (value_of u ≡ n)
      go true e k = (numbered x b c, rw (← e), cc)
      go false e k = let z : ◌≡◌ {A = ℕ} 0 1 = cc in absurd (omega arith)

module _ (s : List ℕ) (at : ℕ) where
  place_back : (k : ℕ) → k ≤ length s → length s - length (drop k s) ≡ k
  place_back k h = omega (arith, length-drop k s)

  pub escape_cut_off : length s ≤ at → None ≡ escape_at s at
  unfolding escape_at
  escape_cut_off h = rw (drop_of_length-le s h)

  pub unit_cut_off : (style : Style) → length s ≤ at → None ≡ written_octet_at style s at
  unfolding written_octet_at
  unit_cut_off style h = rw (drop_of_length-le s h)

  module _ (h : at < length s) where
    step : drop at s ≡ get_or s at 0 ∷ drop (at + 1) s
    step = drop_step 0 s at (at + 1) h refl

    module _ (r : Bool) (told : r ≡ is_digit (get_or s at 0)) where
      module _ (yes' : r ≡ true) where
        is : is_digit (get_or s at 0) ≡ true
        is = sym told ∙ yes'

        pub three_cut_off : length s - at < 3 → None ≡ escape_at s at
        unfolding escape_at
        three_cut_off short =
            rw (step, ← told, yes', three_short (get_or s at 0) is (drop (at + 1) s) (omega (arith, length-drop (at + 1) s)))

        module _ (long : 3 ≤ length s - at) (next : ℕ) (e : next ≡ at + 3) (q : Option ℕ) (read : q ≡ decimal_in (take (next - at) (drop at s))) where
          digits : take (next - at) (drop at s) ≡ take 3 (get_or s at 0 ∷ drop (at + 1) s)
          digits = let three : next - at ≡ 3 = omega arith in rw (three, step)

          enough : 2 ≤ length (drop (at + 1) s)
          enough = omega (arith, length-drop (at + 1) s)

          pub no_number : q ≡ None → None ≡ escape_at s at
          unfolding escape_at
          no_number g =
              rw (step, ← told, yes', three_missing (get_or s at 0) is (drop (at + 1) s) enough (rw digits at (octet_missing _ q read g)))

          pub number_there : (n : ℕ) → q ≡ Some n → Some (record { octet = n; next = next }) ≡ escape_at s at
          unfolding escape_at
          number_there n g = go (three_there (get_or s at 0) is (drop (at + 1) s) n enough (rw digits at (octet_there _ q read n g)))
            where
              go :
                  ((u : WrittenOctet) × (three_more (get_or s at 0) (drop (at + 1) s) ≡ Some (u, drop 2 (drop (at + 1) s))) × (value_of u ≡ n)) →
                  Some (record { octet = n; next = next }) ≡ escape_at s at
              go (u, found, value) =
                  let behind : at + 1 + 2 ≡ next = omega arith in
                  rw (step, ← told, yes', found, value, drop-drop 2 (at + 1) s, behind, place_back next (omega arith))

      module _ (no' : r ≡ false) where
        pub below_32 : get_or s at 0 < 32 → None ≡ escape_at s at
        unfolding escape_at
        below_32 l = rw (step, ← told, no', lt-leb 32 (get_or s at 0) l)

        pub above_126 : 126 < get_or s at 0 → None ≡ escape_at s at
        unfolding escape_at
        above_126 l = rw (step, ← told, no', lt-leb (get_or s at 0) 126 l, and-false)

        pub quoted_there : 32 ≤ get_or s at 0 → get_or s at 0 ≤ 126 → Some (record { octet = get_or s at 0; next = at + 1 }) ≡ escape_at s at
        unfolding escape_at
        quoted_there low high =
            rw (step, ← told, no', le-leb 32 (get_or s at 0) low, le-leb (get_or s at 0) 126 high, place_back (at + 1) (omega arith))

    module _ (style : Style) where
      pub escape_there : (o : Option WrittenOctetAt) → get_or s at 0 ≡ backslash → o ≡ escape_at s (at + 1) → o ≡ written_octet_at style s at
      unfolding escape_at written_octet_at
      escape_there o e told = told ∙ rw (step, e)

      module _ (other : get_or s at 0 ≡ backslash → ⊥) (r : Bool) (told : r ≡ plain_in style (get_or s at 0)) where
        pub wrong_octet : r ≡ false → None ≡ written_octet_at style s at
        unfolding written_octet_at
        wrong_octet e = rw (step, ne_eqb (get_or s at 0) backslash other, ← told, e)

        pub octet_itself : r ≡ true → Some (record { octet = get_or s at 0; next = at + 1 }) ≡ written_octet_at style s at
        unfolding written_octet_at
        octet_itself e = rw (step, ne_eqb (get_or s at 0) backslash other, ← told, e, place_back (at + 1) (omega arith))
