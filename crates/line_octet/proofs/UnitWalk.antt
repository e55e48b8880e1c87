-- Loops over written octets: the remaining ones give the octets that follow.
use Rattle.std.proofs.lemmas.Option.{none-some}
use Rattle.std.specs.Prelude.{Option, None, Some}
use Prim.Native.Nat.{ℕ, zero, suc, ◌+◌, ◌-◌, ◌≤◌, ◌<◌}
use native.Mathlib.Omega.{arith}
use mathlib.Core.Path.{◌≡◌, refl, sym, ap, ◌∙◌}
use mathlib.Core.Bool.{Bool}
use mathlib.Core.List.{List, [], ◌∷◌, ◌++◌, append_assoc}
use lib.ListN.{length, drop, length-append, length-drop, drop_of_length-le}
use lib.Seq.{drop_at, drop-drop}
use Rattle.spec_octets.specs.Items.{Items, whole, broken, over, follow, before, items}
use Rattle.spec_line.specs.Read.{WrittenOctet, plain, quoted, numbered, value_of, written_octet, values, unescaped}
use Rattle.spec_line.specs.Grammar.{as_written}
use Rattle.spec_line.proofs.Units.{unit_reads}
use Rattle.line_octet.specs.declared.Style.{Style}
use Rattle.line_octet.specs.declared.WrittenOctetAt.{WrittenOctetAt}
use Rattle.line_octet.specs.Places.{plain_in, written_octet_places, written_octet_at}

-- octets put before those that follow, if these can be read
abbrev pub joined : List ℕ → Option (List ℕ) → Option (List ℕ)
joined a None = None
joined a (Some v) = Some (a ++ v)

pub joined_twice : (a b : List ℕ) (o : Option (List ℕ)) → joined a (joined b o) ≡ joined (a ++ b) o
joined_twice a b None = refl
joined_twice a b (Some v) = rw append_assoc

module _ (class : ℕ → Bool) where
  full : (u : WrittenOctet) → 1 ≤ length (as_written u)
  full (plain x) = omega arith
  full (quoted x) = omega arith
  full (numbered a b c) = omega arith

  shorter : (l : List ℕ) (u : WrittenOctet) (rest : List ℕ) → written_octet class l ≡ Some (u, rest) → length rest < length l
  shorter l u rest h =
      let (front, good) = (unit_reads class l u rest).0 h in
      omega (arith, ap length front, length-append (as_written u) rest, full u)

  -- any limit that is no less than the length will do
  enough : (m n : ℕ) (l : List ℕ) → length l ≤ m → length l ≤ n → items (written_octet class) m l ≡ items (written_octet class) n l
  enough zero zero l h k = refl
  enough zero (suc n) [] h k = refl
  enough zero (suc n) (x ∷ l) h k = absurd (omega arith)
  enough (suc m) zero [] h k = refl
  enough (suc m) zero (x ∷ l) h k = absurd (omega arith)
  enough (suc m) (suc n) [] h k = refl
  enough (suc m) (suc n) (x ∷ l) h k = go (written_octet class (x ∷ l)) (shorter (x ∷ l)) (enough m n)
    where
      go :
          (o : Option (WrittenOctet × List ℕ)) → ((u : WrittenOctet) (rest : List ℕ) → o ≡ Some (u, rest) → length rest < length (x ∷ l)) →
          ((l : List ℕ) → length l ≤ m → length l ≤ n → items (written_octet class) m l ≡ items (written_octet class) n l) →
          before o (λ rest. items (written_octet class) m rest) ≡ before o (λ rest. items (written_octet class) n rest)
      go None s ih = refl
      go (Some r) s ih = let less = s r.0 r.1 refl in ap (follow r.0) (ih r.1 (omega arith) (omega arith))

  values_follow : (u : WrittenOctet) (i : Items WrittenOctet) → values (follow u i) ≡ joined (value_of u ∷ []) (values i)
  values_follow u (whole us) = refl
  values_follow u (broken k) = refl
  values_follow u over = refl

  unescaped_step :
      (l : List ℕ) (u : WrittenOctet) (rest : List ℕ) → written_octet class l ≡ Some (u, rest) → unescaped class l ≡ joined (value_of u ∷ []) (unescaped class rest)
  unfolding unescaped
  unescaped_step [] u rest h = absurd (none-some _ h)
  unescaped_step (x ∷ l) u rest h =
      rw (h, enough (length l) (length rest) rest (omega (arith, shorter (x ∷ l) u rest h)) (omega arith))
      (values_follow u (items (written_octet class) (length rest) rest))

  unescaped_fault : (l : List ℕ) → 0 < length l → written_octet class l ≡ None → unescaped class l ≡ None
  unfolding unescaped
  unescaped_fault [] full h = absurd (omega arith)
  unescaped_fault (x ∷ l) full h = rw h

  unescaped_end : unescaped class [] ≡ Some []
  unfolding unescaped
  unescaped_end = refl

module _ (style : Style) (s : List ℕ) (at : ℕ) where
  -- the octets that the units left stand for
  abbrev pub unescaped_left : Option (List ℕ)
  unescaped_left = unescaped (plain_in style) (drop at s)

  pub left_over : length s ≤ at → unescaped_left ≡ Some []
  left_over h = rw (drop_of_length-le s h) (unescaped_end (plain_in style))

module _ (style : Style) (s : List ℕ) (at : ℕ) where
  pub record UnitTo (p : WrittenOctetAt) : Type 0 where
    pub left : unescaped_left style s at ≡ joined (p.octet ∷ []) (unescaped_left style s p.next)
    pub onward : at < p.next
    pub inside : p.next ≤ length s

  unit_to : (u : WrittenOctet) (rest : List ℕ) → written_octet (plain_in style) (drop at s) ≡ Some (u, rest) → UnitTo (record { octet = value_of u; next = length s - length rest })
  unit_to u rest h =
      let front = ((unit_reads (plain_in style) (drop at s) u rest).0 h).0 in
      let long : length s - at ≡ length (as_written u) + length rest = sym (length-drop at s) ∙ ap length front ∙ length-append (as_written u) rest in
      let some_left = full (plain_in style) u in
      let place : length s - length rest ≡ at + length (as_written u) = omega arith in
      let behind : drop (length s - length rest) s ≡ rest =
      rw (place, ← drop-drop (length (as_written u)) at s, front) (drop_at (as_written u) rest (length (as_written u)) refl) in
      record {
        left = rw behind (unescaped_step (plain_in style) (drop at s) u rest h);
        onward = omega arith;
        inside = omega arith;
      }

  -- a caller of read_written_octet knows its answer o
  module _ (o : Option WrittenOctetAt) (told : o ≡ written_octet_at style s at) where
    pub unit_there : (p : WrittenOctetAt) → o ≡ Some p → UnitTo p
    unfolding written_octet_at
    unit_there p g = go (written_octet (plain_in style) (drop at s)) refl (sym told ∙ g)
      where
        go : (q : Option (WrittenOctet × List ℕ)) → written_octet (plain_in style) (drop at s) ≡ q → written_octet_places s q ≡ Some p → UnitTo p
        go None h k = let z : ◌≡◌ {A = ℕ} 0 1 = cc in absurd (omega arith)
        go (Some r) h k =
            let same : record { octet = value_of r.0; next = length s - length r.1 } ≡ p = cc in
            rw same at (unit_to r.0 r.1 h)

    pub unit_missing : at < length s → o ≡ None → unescaped_left style s at ≡ None
    unfolding written_octet_at
    unit_missing l g = go (written_octet (plain_in style) (drop at s)) refl (sym told ∙ g)
      where
        go : (q : Option (WrittenOctet × List ℕ)) → written_octet (plain_in style) (drop at s) ≡ q → written_octet_places s q ≡ None → unescaped_left style s at ≡ None
        go None h k = unescaped_fault (plain_in style) (drop at s) (omega (arith, length-drop at s)) h
        go (Some r) h k = let z : ◌≡◌ {A = ℕ} 0 1 = cc in absurd (omega arith)

    pub unit_less : (p : WrittenOctetAt) → at < length s → o ≡ Some p → length s - p.next < length s - at
    unit_less p l g = let k = unit_there p g in omega arith
