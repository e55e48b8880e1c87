-- A law of length_at for each return of read_length, and what a caller knows.
use Rattle.std.specs.Prelude.{Option, None, Some}
use Prim.Native.Nat.{ℕ, ◌+◌, ◌*◌, ◌/◌, ◌%◌, ◌-◌, ◌≤◌, ◌<◌, ◌^◌}
use native.Mathlib.Omega.{arith}
use mathlib.Core.Path.{◌≡◌, refl, sym, ap, ◌∙◌}
use mathlib.Core.Logic.{◌≢◌}
use mathlib.Core.List.{List, [], ◌∷◌, ◌++◌}
use lib.ListN.{length, drop, get_or, length-drop, length-append}
use lib.Seq.{drop-drop, drop-append_seam}
use Rattle.spec_octets.specs.Reader.{in_octets}
use Rattle.spec_octets.proofs.ReaderLaws.{nothing_found, fault_told}
use Rattle.spec_octets.proofs.Walks.{drop_step}
use Rattle.spec_der.specs.Elements.{wire_length, element_length}
use Rattle.spec_der.proofs.LengthLaws.{by_length, length_is_its_form}
use Rattle.read_element.specs.declared.LengthAt.{LengthAt}
use Rattle.read_element.specs.Places.{length_places, length_at}

-- what is left behind the front of what is left
pub drop_front : (s : List ℕ) (at : ℕ) (a b : List ℕ) → drop at s ≡ a ++ b → drop (at + length a) s ≡ b
drop_front s at a b e = rw (← drop-drop (length a) at s, e) (drop-append_seam a b)

pub long_front : (s : List ℕ) (at : ℕ) (a b : List ℕ) → drop at s ≡ a ++ b → length s - at ≡ length a + length b
long_front s at a b e = sym (length-drop at s) ∙ ap length e ∙ length-append a b

pub sum_front : (s : List ℕ) (at : ℕ) (a b : List ℕ) → drop at s ≡ a ++ b → 0 < length a → length s ≡ at + length a + length b
sum_front s at a b e h = omega (arith, long_front s at a b e)

-- the three forms of length octets x ∷ u
by_octets :
    {C : Type 0} (x : ℕ) (u : List ℕ) (n : ℕ) (rest : List ℕ) → x ∷ u ≡ wire_length n ++ rest → (n < 128 → x ≡ n → C) →
    (128 ≤ n → x ≡ 129 → u ≡ n ∷ rest → C) → (256 ≤ n → x ≡ 130 → u ≡ n / 256 % 256 ∷ n % 256 ∷ rest → C) → C
by_octets {C} x u n rest e one two three =
    by_length n (λ h w. first h (rw w at e)) (λ h k w. second h (rw w at e)) (λ h w. third h (rw w at e))
  where
    first : n < 128 → x ∷ u ≡ n ∷ rest → C
    first h f = one h (cc)

    second : 128 ≤ n → x ∷ u ≡ 129 ∷ n ∷ rest → C
    second h f = two h (cc) (cc)

    third : 256 ≤ n → x ∷ u ≡ 130 ∷ n / 256 % 256 ∷ n % 256 ∷ rest → C
    third h f = three h (cc) (cc)

module _ (s : List ℕ) (at : ℕ) where
  -- l says which length stands there, and where its octets end
  pub record LengthTo (l : LengthAt) : Type 0 where
    pub found : element_length (drop at s) ≡ Some (l.value, drop l.next s)
    pub after : at < l.next
    pub inside : l.next ≤ length s

  pub length_to :
      (n next : ℕ) → element_length (drop at s) ≡ Some (n, drop next s) → next ≤ length s →
      Some (record { value = n; next = next }) ≡ length_at s at
  unfolding length_at
  length_to n next e h =
      let p : length s - length (drop next s) ≡ next = omega (arith, length-drop next s) in
      rw (e, p)

  pub length_faults : element_length (drop at s) ≡ None → None ≡ length_at s at
  unfolding length_at
  length_faults e = rw e

  unread : ((n : ℕ) (rest : List ℕ) → drop at s ≡ wire_length n ++ rest → n < 2 ^ 16 → ⊥) → None ≡ length_at s at
  unread bad =
      length_faults (nothing_found (element_length (drop at s)) (λ r e.
      let k = (length_is_its_form (drop at s) r.0 r.1).0 e in bad r.0 r.1 k.0 k.1))

  pub nothing_left : length s ≤ at → None ≡ length_at s at
  nothing_left h = unread (λ n rest e k.
      by_length n
      (λ i w. omega (arith, long_front s at (wire_length n) rest e, ap length w))
      (λ i j w. omega (arith, long_front s at (wire_length n) rest e, ap length w))
      (λ i w. omega (arith, long_front s at (wire_length n) rest e, ap length w)))

  module _ (x : ℕ) (h : at < length s) (a : x ≡ get_or s at 0) where
    here : drop at s ≡ x ∷ drop (at + 1) s
    here = drop_step 0 s at (at + 1) h refl ∙ rw (← a)

    stands : (n : ℕ) (w rest : List ℕ) → wire_length n ≡ w → x ∷ drop (at + 1) s ≡ w ++ rest → n < 2 ^ 16 → element_length (drop at s) ≡ Some (n, rest)
    stands n w rest e f small = (length_is_its_form (drop at s) n rest).1 (here ∙ f ∙ rw e, small)

    bad : ((n : ℕ) (rest : List ℕ) → x ∷ drop (at + 1) s ≡ wire_length n ++ rest → n < 2 ^ 16 → ⊥) → None ≡ length_at s at
    bad no_length = unread (λ n rest e. no_length n rest (sym here ∙ e))

    pub one_octet : x < 128 → Some (record { value = x; next = at + 1 }) ≡ length_at s at
    one_octet k =
        length_to x (at + 1)
        (by_length x
        (λ i w. stands x (x ∷ []) (drop (at + 1) s) w refl (omega arith))
        (λ i j w. absurd (omega arith))
        (λ i w. absurd (omega arith)))
        (omega arith)

    module _ (k : 128 ≤ x) where
      pub second_cut_off : length s ≤ at + 1 → None ≡ length_at s at
      second_cut_off l = bad (λ n rest e small. by_octets x (drop (at + 1) s) n rest e
          (λ i f. omega arith)
          (λ i f g. let z = ap length g in omega (arith, length-drop (at + 1) s))
          (λ i f g. let z = ap length g in omega (arith, length-drop (at + 1) s)))

      module _ (y : ℕ) (i : at + 1 < length s) (c : y ≡ get_or s (at + 1) 0) where
        next : drop (at + 1) s ≡ y ∷ drop (at + 1 + 1) s
        next = drop_step 0 s (at + 1) (at + 1 + 1) i refl ∙ rw (← c)

        pub not_the_shortest : x ≡ 129 → y < 128 → None ≡ length_at s at
        not_the_shortest e l = bad (λ n rest f small. by_octets x (drop (at + 1) s) n rest f
            (λ j g. omega arith)
            (λ j g u. let z : y ∷ drop (at + 1 + 1) s ≡ n ∷ rest = sym next ∙ u in let q : y ≡ n = cc in omega arith)
            (λ j g u. omega arith))

        pub two_octets : x ≡ 129 → 128 ≤ y → y < 256 → Some (record { value = y; next = at + 1 + 1 }) ≡ length_at s at
        two_octets e l m =
            length_to y (at + 1 + 1)
            (by_length y
            (λ j w. absurd (omega arith))
            (λ j o w. stands y (129 ∷ y ∷ []) (drop (at + 1 + 1) s) w (rw (e, next)) (omega arith))
            (λ j w. absurd (omega arith)))
            (omega arith)

        module _ (e : x ≢ 129) where
          pub no_such_form : x ≢ 130 → None ≡ length_at s at
          no_such_form f = bad (λ n rest g small. by_octets x (drop (at + 1) s) n rest g
              (λ j p. omega arith)
              (λ j p u. e p)
              (λ j p u. f p))

          module _ (f : x ≡ 130) where
            pub third_cut_off : length s ≤ at + 1 + 1 → None ≡ length_at s at
            third_cut_off l = bad (λ n rest g small. by_octets x (drop (at + 1) s) n rest g
                (λ j p. omega arith)
                (λ j p u. e p)
                (λ j p u. let z = ap length u in omega (arith, length-drop (at + 1) s)))

            pub leading_zero : y ≡ 0 → None ≡ length_at s at
            leading_zero l = bad (λ n rest g small. by_octets x (drop (at + 1) s) n rest g
                (λ p q. omega arith)
                (λ p q u. e q)
                (λ p q u. let w : y ∷ drop (at + 1 + 1) s ≡ n / 256 % 256 ∷ n % 256 ∷ rest = sym next ∙ u in
                let v : y ≡ n / 256 % 256 = cc in omega arith))

            module _ (z : ℕ) (j : at + 1 + 1 < length s) (o : z ≡ get_or s (at + 1 + 1) 0) where
              last : drop (at + 1 + 1) s ≡ z ∷ drop (at + 1 + 1 + 1) s
              last = drop_step 0 s (at + 1 + 1) (at + 1 + 1 + 1) j refl ∙ rw (← o)

              pub three_octets : y ≢ 0 → y < 256 → z < 256 → Some (record { value = y * 256 + z; next = at + 1 + 1 + 1 }) ≡ length_at s at
              three_octets l m t =
                  length_to (y * 256 + z) (at + 1 + 1 + 1)
                  (by_length (y * 256 + z)
                  (λ p w. absurd (omega arith))
                  (λ p q w. absurd (omega arith))
                  (λ p w. stands (y * 256 + z) (130 ∷ in_octets 2 (y * 256 + z)) (drop (at + 1 + 1 + 1) s) w whole (omega arith)))
                  (omega arith)
                where
                  whole : x ∷ drop (at + 1) s ≡ 130 ∷ in_octets 2 (y * 256 + z) ++ drop (at + 1 + 1 + 1) s
                  whole =
                      let high : (y * 256 + z) / 256 % 256 ≡ y = omega arith in
                      let low : (y * 256 + z) % 256 ≡ z = omega arith in
                      rw (high, low, f, next, last) refl

  -- what a caller of read_length knows
  module _ (o : Option LengthAt) (f : o ≡ length_at s at) where
    pub no_length : o ≡ None → element_length (drop at s) ≡ None
    unfolding length_at
    no_length g = (fault_told (length_places s) (element_length (drop at s)) (λ r e. let z : ◌≡◌ {A = ℕ} 0 1 = cc in omega arith)).0 (sym f ∙ g)

    pub length_there : (l : LengthAt) → o ≡ Some l → LengthTo l
    unfolding length_at
    length_there l g = go (element_length (drop at s)) refl (sym f ∙ g)
      where
        there :
            (n : ℕ) (rest : List ℕ) → element_length (drop at s) ≡ Some (n, rest) →
            Some (record { value = n; next = length s - length rest }) ≡ Some l → LengthTo l
        there n rest e p =
            let front = ((length_is_its_form (drop at s) n rest).0 e).0 in
            let long = long_front s at (wire_length n) rest front in
            let some_octets : 0 < length (wire_length n) =
            by_length n (λ i w. omega (arith, ap length w)) (λ i j w. omega (arith, ap length w)) (λ i w. omega (arith, ap length w)) in
            let place : at + length (wire_length n) ≡ length s - length rest = omega arith in
            let behind : drop (length s - length rest) s ≡ rest = rw (← place) (drop_front s at (wire_length n) rest front) in
            let same : record { value = n; next = length s - length rest } ≡ l = cc in
            rw (← same) (record { found = rw behind e; after = omega arith; inside = omega arith })

        go : (r : Option (ℕ × List ℕ)) → element_length (drop at s) ≡ r → length_places s r ≡ Some l → LengthTo l
        go None e p = let z : ◌≡◌ {A = ℕ} 0 1 = cc in absurd (omega arith)
        go (Some r) e p = there r.0 r.1 e p
