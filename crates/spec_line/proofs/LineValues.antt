-- The value of a line, in quotes or bare and not empty, never begins with white space.
use Rattle.std.proofs.lemmas.Option.{none-some}
use Rattle.std.specs.Prelude.{None, Some}
use Prim.Native.Nat.{ℕ}
use mathlib.Core.Path.{◌≡◌, refl, ap}
use mathlib.Core.Logic.{◌↔◌, ◌≢◌, inl, inr}
use mathlib.Core.Bool.{Bool, true, false, cond, ◌||◌, or-true, false≢true}
use mathlib.Core.List.{List, [], ◌∷◌, ◌++◌, map, drop_last, cons≢nil, head-eq_of_cons-eq}
use lib.Dec.{eqb}
use borrow.Author.Tests.{eqb-true, ne_eqb}
use Rattle.spec_octets.specs.Lists.{begins, ends, All, flatten}
use Rattle.spec_octets.specs.Octets.{is_blank}
use Rattle.spec_octets.proofs.ListLaws.{told_apart, All-head, ends_append}
use Rattle.spec_octets.proofs.Runs.{not_blank}
use Rattle.spec_line.specs.Written.{quote, backslash}
use Rattle.spec_line.specs.Read.{WrittenOctet, plain, quoted, numbered, unescaped, is_in_quotes, is_bare, line_value}
use Rattle.spec_line.specs.Grammar.{as_written, GoodWrittenOctet, WrittenFor, ValueField}
use Rattle.spec_line.proofs.Units.{unescaped_units}

-- A list that ends in c is all but its last octet, and c.

last_off : (c : ℕ) (s : List ℕ) → ends (eqb c) s ≡ true → s ≡ drop_last s ++ (c ∷ [])
last_off c [] e = absurd (false≢true e)
last_off c (x ∷ []) e = rw (eqb-true c x e)
last_off c (x ∷ y ∷ s) e = ap (◌∷◌ x) (last_off c (y ∷ s) e)

all_but_last : (s : List ℕ) (c : ℕ) → drop_last (s ++ (c ∷ [])) ≡ s
all_but_last [] c = refl
all_but_last (x ∷ []) c = refl
all_but_last (x ∷ y ∷ s) c = ap (◌∷◌ x) (all_but_last (y ∷ s) c)

-- what a bare value begins with
abbrev is_first : ℕ → Bool
is_first x = is_bare x || eqb x backslash

bare_first : (v : List ℕ) (x : ℕ) (s : List ℕ) → WrittenFor is_bare v (x ∷ s) → is_first x ≡ true
bare_first v x s units = go units.0 units.1 units.2
  where
    go : (us : List WrittenOctet) → x ∷ s ≡ flatten (map as_written us) → All (GoodWrittenOctet is_bare) us → is_first x ≡ true
    go [] e good = absurd (cons≢nil e)
    go (plain y ∷ us) e good = rw (head-eq_of_cons-eq e, (All-head good).0)
    go (quoted y ∷ us) e good = rw (head-eq_of_cons-eq e, or-true)
    go (numbered a b c ∷ us) e good = rw (head-eq_of_cons-eq e, or-true)

unquoted : (x : ℕ) → is_first x ≡ true → x ≢ quote
unfolding is_bare
unquoted = told_apart is_first quote refl

pub value_unblank : (v s : List ℕ) → ValueField v s → begins is_blank s ≡ false
unfolding is_bare is_blank
value_unblank v s (inl q) = rw q.1
value_unblank v [] (inr b) = refl
value_unblank v (x ∷ s) (inr b) = not_blank is_first refl refl x (bare_first v x s b.1)

value_read : (s v : List ℕ) → line_value s ≡ Some v → ValueField v s
unfolding line_value
value_read [] v h = absurd (none-some _ h)
value_read (x ∷ s) v h = go (eqb x quote) refl h
  where
    within :
        x ≡ quote → (t : Bool) → ends (eqb quote) s ≡ t → cond t (unescaped is_in_quotes (drop_last s)) None ≡ Some v → ValueField v (x ∷ s)
    within q true e h = inl (drop_last s, rw q (ap (◌∷◌ quote) (last_off quote s e)), (unescaped_units is_in_quotes (drop_last s) v).0 h)
    within q false e h = absurd (none-some _ h)

    go :
        (t : Bool) → eqb x quote ≡ t →
        cond t (cond (ends (eqb quote) s) (unescaped is_in_quotes (drop_last s)) None) (unescaped is_bare (x ∷ s)) ≡ Some v →
        ValueField v (x ∷ s)
    go true e h = within (eqb-true x quote e) (ends (eqb quote) s) refl h
    go false e h = inr (cons≢nil, (unescaped_units is_bare (x ∷ s) v).0 h)

value_stand : (s v : List ℕ) → ValueField v s → line_value s ≡ Some v
unfolding line_value
value_stand s v (inl q) =
    let (c, e, units) = q in
    rw (e, ends_append (eqb quote) c quote [], all_but_last c quote) ((unescaped_units is_in_quotes c v).1 units)
value_stand [] v (inr b) = absurd (b.0 refl)
value_stand (x ∷ s) v (inr b) = rw (ne_eqb x quote (unquoted x (bare_first v x s b.1))) ((unescaped_units is_bare (x ∷ s) v).1 b.1)

pub value_field : (s v : List ℕ) → (line_value s ≡ Some v) ↔ ValueField v s
value_field s v = (value_read s v, value_stand s v)
