-- The numbers of CAA records and aliases are below the limit on records, for any octets.
use Rattle.std.specs.Prelude.{Option, None, Some}
use Prim.Native.Nat.{ℕ, suc, ◌+◌, ◌≤◌, ◌<◌}
use native.Mathlib.Omega.{arith}
use mathlib.Core.Path.{◌≡◌, refl}
use mathlib.Core.Bool.{Bool, true, false, cond}
use mathlib.Core.List.{List, [], ◌∷◌}
use lib.ListN.{length}
use Rattle.spec_limits.specs.Limits.{max_records}
use Rattle.spec_octets.specs.Lists.{All, all_nil, all_cons}
use Rattle.spec_octets.proofs.ListLaws.{All-join}
use Rattle.spec_octets.proofs.ItemRoom.{items_within, whole_within}
use Rattle.spec_name.specs.Names.{Name}
use Rattle.spec_record.specs.Property.{property}
use Rattle.spec_record.specs.Records.{Record, is_caa, is_alias, target, resource_record, record_items, records}
use Rattle.spec_record.specs.Kinds.{kept, of_kind_from}
use Rattle.spec_rule.specs.Aliases.{as_alias}
use Rattle.spec_rule.specs.RelevantSet.{Book, as_caa, as_book}

-- records of one kind are numbered below their bound
module _ {A B : Type 0} (is_of : ℕ → ℕ → Bool) (read : List ℕ → Option A) (made : ℕ → Name → A → B) (number_of : B → ℕ)
    (numbered : (k : ℕ) (x : Name) (a : A) → number_of (made k x a) ≡ k) (m : ℕ) where
  kind_numbered : (k : ℕ) (rs : List Record) → k + length rs ≤ m → All (λ b. number_of b < m) (of_kind_from is_of read made k rs)
  kind_numbered k [] h = all_nil
  kind_numbered k (r ∷ rs) h = All-join (one (is_of r.type r.class) (read r.rdata)) (kind_numbered (suc k) rs (omega arith))
    where
      one : (t : Bool) (o : Option A) → All (λ b. number_of b < m) (cond t (kept (made k r.owner) o) [])
      one true None = all_nil
      one true (Some a) = all_cons {x = made k r.owner a} (rw (numbered k r.owner a) (omega arith)) all_nil
      one false o = all_nil

abbrev pub Numbered : ℕ → Book → Type 0
Numbered m book = All (λ c. c.number < m) book.caa × All (λ a. a.number < m) book.aliases

pub book_numbered : (b : List ℕ) → Numbered max_records (as_book (records b))
unfolding records record_items
book_numbered b =
    let few = whole_within max_records (record_items b) (items_within resource_record max_records b) in (
      kind_numbered is_caa property as_caa (λ c. c.number) (λ k x p. refl) max_records 0 (records b) (omega arith),
      kind_numbered is_alias target as_alias (λ a. a.number) (λ k x t. refl) max_records 0 (records b) (omega arith),
    )
