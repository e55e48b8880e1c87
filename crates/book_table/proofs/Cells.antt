-- One number of a row, and octets from an offset on: a law for each way out of the code.
use Prim.Native.Nat.{ℕ, ◌+◌, ◌-◌, ◌*◌, ◌≤◌, ◌<◌}
use native.Mathlib.Omega.{arith}
use mathlib.Core.Path.{◌≡◌, sym, ◌∙◌}
use mathlib.Core.Bool.{Bool}
use mathlib.Core.List.{List, []}
use lib.ListN.{length, take, drop, get_or, length-drop, drop_of_length-le, get_or-eq_default}
use lib.Seq.{take_all, take-nil}
use borrow.Author.Tests.{lt-ltb, le-ltb}
use Rattle.spec_limits.specs.Limits.{max_records}
use Rattle.spec_record.specs.Records.{is_caa, is_alias}
use Rattle.book_places.specs.Table.{cell, octets_at, owner_at, data_at, is_caa_at, is_alias_at}

module _ (table : List ℕ) (i column : ℕ) where
  pub no_record_lem : max_records ≤ i → 0 ≡ cell table i column
  unfolding cell
  no_record_lem h = rw (le-ltb i max_records h)

  module _ (h : i < max_records) where
    pub cell_there : get_or table (6 * i + column) 0 ≡ cell table i column
    unfolding cell
    cell_there = rw (lt-ltb i max_records h)

    pub no_cell : length table ≤ 6 * i + column → 0 ≡ cell table i column
    no_cell k = sym (get_or-eq_default table 0 k) ∙ cell_there

module _ (s : List ℕ) (at n : ℕ) where
  pub behind_all : length s < at → [] ≡ octets_at s at n
  behind_all h = rw (drop_of_length-le s {i = at} (omega arith)) (sym (take-nil n))

  pub to_the_end : length s - at < n → take (length s - at) (drop at s) ≡ octets_at s at n
  to_the_end h =
      take_all (length s - at) (drop at s) (omega (arith, length-drop at s)) ∙ sym (take_all n (drop at s) (omega (arith, length-drop at s)))

  pub whole_part : take (at + n - at) (drop at s) ≡ octets_at s at n
  whole_part = let long : at + n - at ≡ n = omega arith in rw long

-- what a row says, by two of its numbers
module _ (table : List ℕ) (i x y : ℕ) where
  module _ (book s : List ℕ) (is : s ≡ octets_at book x y) where
    pub owner_by_cells : x ≡ cell table i 0 → y ≡ cell table i 3 → s ≡ owner_at book table i
    unfolding owner_at
    owner_by_cells e f = rw (← e, ← f) is

    pub data_by_cells : x ≡ cell table i 2 → y ≡ cell table i 4 → s ≡ data_at book table i
    unfolding data_at
    data_by_cells e f = rw (← e, ← f) is

  pub caa_by_cells : (r : Bool) → r ≡ is_caa x y → x ≡ cell table i 1 → y ≡ cell table i 5 → r ≡ is_caa_at table i
  unfolding is_caa_at
  caa_by_cells r is e f = rw (← e, ← f) is

  pub alias_by_cells : (r : Bool) → r ≡ is_alias x y → x ≡ cell table i 1 → y ≡ cell table i 5 → r ≡ is_alias_at table i
  unfolding is_alias_at
  alias_by_cells r is e f = rw (← e, ← f) is
