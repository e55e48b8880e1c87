-- The offsets of a value's written octets: a law of line_value_at for each return of read_line_value, and what it says about line_value.
use Rattle.std.specs.Prelude.{None, Option, Some}
use Prim.Native.Nat.{ℕ, suc, ◌-◌, ◌≤◌}
use native.Mathlib.Nat.{sub-zero}
use native.Mathlib.Omega.{arith}
use mathlib.Core.Path.{◌≡◌, refl, sym, ◌∙◌}
use mathlib.Core.Bool.{Bool, true, false, cond, false≢true}
use mathlib.Core.List.{List, [], ◌∷◌, drop_last}
use lib.Dec.{eqb}
use lib.ListN.{length, take, drop, get_or}
use lib.Seq.{take-length}
use borrow.Author.Tests.{eq-eqb, ne_eqb}
use Rattle.spec_octets.specs.Lists.{ends}
use Rattle.text_labels.proofs.LabelTests.{ends_at}
use Rattle.spec_line.specs.Written.{quote}
use Rattle.spec_line.specs.Read.{unescaped, is_in_quotes, is_bare, line_value}
use Rattle.line_octet.specs.declared.Style.TheVariants.{Quoted, Bare}
use Rattle.line_octet.specs.Places.{plain_in}
use Rattle.line_parts.specs.declared.LineValueAt.{LineValueAt}
use Rattle.line_parts.specs.Places.{line_value_at}

-- Each way out.

pub no_value : (v : List ℕ) → length v ≡ 0 → None ≡ line_value_at v
unfolding line_value_at
no_value [] e = refl
no_value (x ∷ v) e = absurd (omega arith)

pub bare_value :
    (v : List ℕ) → (length v ≡ 0 → ⊥) → (get_or v 0 0 ≡ quote → ⊥) → Some (record { from = 0; end = length v; style = Bare }) ≡ line_value_at v
unfolding line_value_at
bare_value [] full other = absurd (full refl)
bare_value (x ∷ v) full other = rw (ne_eqb x quote other)

pub one_quote : (v : List ℕ) → get_or v 0 0 ≡ quote → length v ≡ 1 → None ≡ line_value_at v
unfolding line_value_at
one_quote [] first e = refl
one_quote (x ∷ []) first e = rw (eq-eqb x quote first)
one_quote (x ∷ y ∷ v) first e = absurd (omega arith)

pub open_quote :
    (v : List ℕ) → (length v ≡ 0 → ⊥) → get_or v 0 0 ≡ quote → (length v ≡ 1 → ⊥) → (get_or v (length v - 1) 0 ≡ quote → ⊥) →
    None ≡ line_value_at v
unfolding line_value_at
open_quote [] full first more other = absurd (full refl)
open_quote (x ∷ []) full first more other = absurd (more refl)
open_quote (x ∷ y ∷ v) full first more other =
    let place : length (x ∷ y ∷ v) - 1 ≡ suc (length v) = omega arith in
    let differs = rw place at other in
    rw (eq-eqb x quote first, ends_at (eqb quote) 0 y v, ne_eqb quote (get_or (y ∷ v) (length v) 0) (λ k. differs (sym k)))

pub quoted_value_lem :
    (v : List ℕ) (e : ℕ) → (length v ≡ 0 → ⊥) → get_or v 0 0 ≡ quote → (length v ≡ 1 → ⊥) → e ≡ length v - 1 → get_or v e 0 ≡ quote →
    Some (record { from = 1; end = e; style = Quoted }) ≡ line_value_at v
unfolding line_value_at
quoted_value_lem [] e full first more last here = absurd (full refl)
quoted_value_lem (x ∷ []) e full first more last here = absurd (more refl)
quoted_value_lem (x ∷ y ∷ v) e full first more last here =
    let place : e ≡ suc (length v) = omega arith in
    let same = rw place at here in
    rw (eq-eqb x quote first, ends_at (eqb quote) 0 y v, eq-eqb quote (get_or (y ∷ v) (length v) 0) (sym same), place)

-- What the places say.

all_but_last : (v : List ℕ) → drop_last v ≡ take (length v - 1) v
all_but_last [] = refl
all_but_last (x ∷ []) = refl
all_but_last (x ∷ y ∷ v) = let place : length (y ∷ v) ≡ suc (length (y ∷ v) - 1) = omega arith in step place (all_but_last (y ∷ v))
  where
    step : length (y ∷ v) ≡ suc (length (y ∷ v) - 1) → drop_last (y ∷ v) ≡ take (length (y ∷ v) - 1) (y ∷ v) → x ∷ drop_last (y ∷ v) ≡ take (length (x ∷ y ∷ v) - 1) (x ∷ y ∷ v)
    step e ih = let whole : length (x ∷ y ∷ v) - 1 ≡ suc (length (y ∷ v) - 1) = omega arith in rw (whole, ih)

module _ (v : List ℕ) where
  pub record ValueTo (p : LineValueAt) : Type 0 where
    pub read : line_value v ≡ unescaped (plain_in p.style) (take (p.end - p.from) (drop p.from v))
    pub starts : p.from ≤ p.end
    pub inside : p.end ≤ length v

value_to : (v : List ℕ) (p : LineValueAt) → line_value_at v ≡ Some p → ValueTo v p
unfolding line_value_at line_value
value_to [] p e = let z : ◌≡◌ {A = ℕ} 0 1 = cc in absurd (omega arith)
value_to (x ∷ v) p e = go (eqb x quote) refl (ends (eqb quote) v) refl e
  where
    quotes : eqb x quote ≡ true → ends (eqb quote) v ≡ true → ValueTo (x ∷ v) (record { from = 1; end = length v; style = Quoted })
    quotes t u = record { read = rw (t, u, all_but_last v); starts = some_last v u; inside = omega arith }
      where
        some_last : (v : List ℕ) → ends (eqb quote) v ≡ true → 1 ≤ length v
        some_last [] u = absurd (false≢true u)
        some_last (y ∷ v) u = omega arith

    bare : eqb x quote ≡ false → ValueTo (x ∷ v) (record { from = 0; end = suc (length v); style = Bare })
    bare t = record { read = rw (t, sub-zero, take-length v); starts = omega arith; inside = omega arith }

    go :
        (t : Bool) → eqb x quote ≡ t → (u : Bool) → ends (eqb quote) v ≡ u →
        cond {A = Option LineValueAt} t (cond u (Some (record { from = 1; end = length v; style = Quoted })) None) (Some (record { from = 0; end = suc (length v); style = Bare })) ≡ Some p →
        ValueTo (x ∷ v) p
    go true t true u k = let same : record { from = 1; end = length v; style = Quoted } ≡ p = cc in rw same at (quotes t u)
    go true t false u k = let z : ◌≡◌ {A = ℕ} 0 1 = cc in absurd (omega arith)
    go false t u w k = let same : record { from = 0; end = suc (length v); style = Bare } ≡ p = cc in rw same at (bare t)

value_gone : (v : List ℕ) → line_value_at v ≡ None → line_value v ≡ None
unfolding line_value_at line_value
value_gone [] e = refl
value_gone (x ∷ v) e = go (eqb x quote) (ends (eqb quote) v) e
  where
    go :
        (t u : Bool) →
        cond {A = Option LineValueAt} t (cond u (Some (record { from = 1; end = length v; style = Quoted })) None) (Some (record { from = 0; end = suc (length v); style = Bare })) ≡ None →
        cond t (cond u (unescaped is_in_quotes (drop_last v)) None) (unescaped is_bare (x ∷ v)) ≡ None
    go true true k = let z : ◌≡◌ {A = ℕ} 0 1 = cc in absurd (omega arith)
    go true false k = refl
    go false u k = let z : ◌≡◌ {A = ℕ} 0 1 = cc in absurd (omega arith)

-- a caller of read_line_value knows its answer o
module _ (v : List ℕ) (o : Option LineValueAt) (told : o ≡ line_value_at v) where
  pub value_there : (p : LineValueAt) → o ≡ Some p → ValueTo v p
  value_there p g = value_to v p (sym told ∙ g)

  pub value_missing : o ≡ None → line_value v ≡ None
  value_missing g = value_gone v (sym told ∙ g)

  pub value_starts : (p : LineValueAt) → o ≡ Some p → p.from ≤ p.end
  value_starts p g = (value_there p g).starts

  pub value_inside : (p : LineValueAt) → o ≡ Some p → p.end ≤ length v
  value_inside p g = (value_there p g).inside
