-- Records by type and class: the test of a kind, and the records of one kind in a book.
use Prim.Native.Nat.{ℕ, suc}
use native.Mathlib.Omega.{arith}
use mathlib.Core.Path.{◌≡◌, sym, ◌∙◌}
use mathlib.Core.Logic.{◌↔◌, ◌⊎◌, inl, inr}
use mathlib.Core.Bool.{true, false, ◌&&◌, and-eq-true_iff, true≢false}
use mathlib.Core.List.{List, [], ◌∷◌}
use lib.Dec.{eqb}
use borrow.Author.Tests.{eqb-true, eq-eqb}
use Rattle.spec_octets.specs.Lists.{All, all_nil, all_cons}
use Rattle.spec_octets.proofs.ListLaws.{true_or_false, not_passed}
use Rattle.spec_record.specs.Records.{Record, is_caa, is_alias}
use Rattle.spec_record.specs.Kinds.{of_kind_from, OfKind, at_end, of_kind, is_other}
use Rattle.spec_record.specs.Theorems.{KindRecords}

kind_exactly : (t c type class : ℕ) → (eqb type t && eqb class c ≡ true) ↔ ((type ≡ t) × (class ≡ c))
kind_exactly t c type class = (
  λ e. let (k, l) = (and-eq-true_iff (eqb type t) (eqb class c)).0 e in (eqb-true type t k, eqb-true class c l),
  λ h. (and-eq-true_iff (eqb type t) (eqb class c)).1 (eq-eqb type t h.0, eq-eqb class c h.1),
)

pub caa_exactly : (type class : ℕ) → (is_caa type class ≡ true) ↔ ((type ≡ 257) × (class ≡ 1))
unfolding is_caa
caa_exactly = kind_exactly 257 1

pub alias_exactly : (type class : ℕ) → (is_alias type class ≡ true) ↔ ((type ≡ 5) × (class ≡ 1))
unfolding is_alias
alias_exactly = kind_exactly 5 1

-- no record is of both kinds
pub caa_no_alias : (type class : ℕ) → is_caa type class ≡ true → is_alias type class ≡ false
caa_no_alias type class e = not_passed (is_alias type class) (λ f. omega (arith, (caa_exactly type class).0 e, (alias_exactly type class).0 f))

pub kind_records : KindRecords
kind_records A B type class is_of read Holds made exactly reads = from
  where
    Held : Record → Type 0
    Held r = r.type ≡ type → r.class ≡ class → (a : A) × Holds r.rdata a

    from : (k : ℕ) (rs : List Record) → All Held rs → OfKind type class Holds made k rs (of_kind_from is_of read made k rs)
    from k [] all_nil = at_end
    from k (r ∷ rs) (all_cons held others) = go (true_or_false (is_of r.type r.class)) (from (suc k) rs others)
      where
        go :
            (is_of r.type r.class ≡ true) ⊎ (is_of r.type r.class ≡ false) →
            OfKind type class Holds made (suc k) rs (of_kind_from is_of read made (suc k) rs) →
            OfKind type class Holds made k (r ∷ rs) (of_kind_from is_of read made k (r ∷ rs))
        go (inl e) rest =
            let (t, c) = (exactly r.type r.class).0 e in
            let (a, h) = held t c in
            rw (e, (reads r.rdata a).1 h) (of_kind a t c h rest)
        go (inr e) rest = rw e (is_other (λ both. true≢false (sym ((exactly r.type r.class).1 both) ∙ e)) rest)
