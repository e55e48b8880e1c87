-- A text is read as written octets exactly when it is a sequence of valid written octets.
use Rattle.std.proofs.lemmas.Option.{none-some, same_Some}
use Rattle.std.specs.Prelude.{Some}
use Prim.Native.Nat.{ℕ}
use mathlib.Core.Path.{◌≡◌, refl}
use mathlib.Core.Logic.{◌↔◌, ◌≢◌}
use mathlib.Core.Bool.{Bool, true, false, cond, ◌&&◌, and-eq-true_iff}
use mathlib.Core.List.{List, [], ◌∷◌, ◌++◌, map, cons≢nil}
use lib.Dec.{eqb, leb}
use lib.ListN.{length}
use borrow.Author.Tests.{eqb-true, eqb-false, ne_eqb, leb-true, le-leb}
use Rattle.spec_octets.specs.Lists.{All, flatten}
use Rattle.spec_octets.specs.Octets.{between, is_digit}
use Rattle.spec_octets.specs.Decimal.{decimal_from}
use Rattle.spec_octets.specs.Reader.{given}
use Rattle.spec_octets.specs.Items.{Items, whole, broken, over, items}
use Rattle.spec_octets.proofs.Fields.{given_read}
use Rattle.spec_octets.proofs.ItemLaws.{items_whole}
use Rattle.spec_line.specs.Written.{backslash}
use Rattle.spec_line.specs.Read.{WrittenOctet, plain, quoted, numbered, value_of, three_more, escape, written_octet, values, unescaped}
use Rattle.spec_line.specs.Grammar.{as_written, GoodWrittenOctet, WrittenFor}

unit_full : (u : WrittenOctet) → as_written u ≢ []
unit_full (plain x) = cons≢nil
unit_full (quoted x) = cons≢nil
unit_full (numbered a b c) = cons≢nil

module _ (class : ℕ → Bool) where
  -- the good unit u stands at the front of s, and rest follows
  abbrev pub Stands : List ℕ → WrittenOctet → List ℕ → Type 0
  Stands s u rest = (s ≡ as_written u ++ rest) × GoodWrittenOctet class u

  module _ (u : WrittenOctet) (rest : List ℕ) where
    three_read : (a : ℕ) (s : List ℕ) → is_digit a ≡ true → three_more a s ≡ Some (u, rest) → Stands (backslash ∷ a ∷ s) u rest
    three_read a [] first h = absurd (none-some _ h)
    three_read a (b ∷ []) first h = absurd (none-some _ h)
    three_read a (b ∷ c ∷ s) first h = given_read (Stands (backslash ∷ a ∷ b ∷ c ∷ s)) h (λ t.
        let (digits, small) = (and-eq-true_iff (is_digit b && is_digit c) (leb (decimal_from 0 (a ∷ b ∷ c ∷ [])) 255)).0 t in
        let (second, third) = (and-eq-true_iff (is_digit b) (is_digit c)).0 digits in
        (refl, (first, second, third, leb-true _ 255 small)))

    escape_read : (s : List ℕ) → escape s ≡ Some (u, rest) → Stands (backslash ∷ s) u rest
    escape_read [] h = absurd (none-some _ h)
    escape_read (x ∷ s) h = go (is_digit x) refl h
      where
        go :
            (t : Bool) → is_digit x ≡ t → cond t (three_more x) (given (between 32 126 x) (quoted x)) s ≡ Some (u, rest) →
            Stands (backslash ∷ x ∷ s) u rest
        go true d h = three_read x s d h
        go false d h = given_read (Stands (backslash ∷ x ∷ s)) h (λ t.
            let (low, high) = (and-eq-true_iff (leb 32 x) (leb x 126)).0 t in
            (refl, (leb-true 32 x low, leb-true x 126 high, d)))

    unit_read : (s : List ℕ) → written_octet class s ≡ Some (u, rest) → Stands s u rest
    unit_read [] h = absurd (none-some _ h)
    unit_read (x ∷ s) h = go (eqb x backslash) refl h
      where
        go : (t : Bool) → eqb x backslash ≡ t → cond t escape (given (class x) (plain x)) s ≡ Some (u, rest) → Stands (x ∷ s) u rest
        go true e h = rw (eqb-true x backslash e) (escape_read s h)
        go false e h = given_read (Stands (x ∷ s)) {t = class x} {a = plain x} {s = s} h (λ t. (refl, (t, eqb-false x backslash e)))

  unit_stand : (u : WrittenOctet) (rest : List ℕ) → GoodWrittenOctet class u → written_octet class (as_written u ++ rest) ≡ Some (u, rest)
  unit_stand (plain x) rest g = rw (ne_eqb x backslash g.1, g.0)
  unit_stand (quoted x) rest g = rw (g.2, le-leb 32 x g.0, le-leb x 126 g.1)
  unit_stand (numbered a b c) rest g = rw (g.0, g.1, g.2, le-leb (decimal_from 0 (a ∷ b ∷ c ∷ [])) 255 g.3)

  pub unit_reads : (s : List ℕ) (u : WrittenOctet) (rest : List ℕ) → (written_octet class s ≡ Some (u, rest)) ↔ Stands s u rest
  unit_reads s u rest = (unit_read u rest s, λ h. rw h.0 (unit_stand u rest h.1))

  values_some : (i : Items WrittenOctet) (v : List ℕ) → values i ≡ Some v → (us : List WrittenOctet) × (i ≡ whole us) × (map value_of us ≡ v)
  values_some (whole us) v h = (us, refl, same_Some _ _ h)
  values_some (broken k) v h = absurd (none-some _ h)
  values_some over v h = absurd (none-some _ h)

  pub unescaped_units : (s v : List ℕ) → (unescaped class s ≡ Some v) ↔ WrittenFor class v s
  unfolding unescaped
  unescaped_units s v = (
    λ h. let (us, e, w) = values_some (items (written_octet class) (length s) s) v h in
        let (stand, good) = (law us).0 e in
        (us, stand, good, w),
    λ h. let (us, stand, good, w) = h in rw ((law us).1 (stand, good), w),
  )
    where
      law : (us : List WrittenOctet) → (items (written_octet class) (length s) s ≡ whole us) ↔ ((s ≡ flatten (map as_written us)) × All (GoodWrittenOctet class) us)
      law = items_whole as_written (GoodWrittenOctet class) unit_full (written_octet class) unit_reads s
