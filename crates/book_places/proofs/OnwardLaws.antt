-- The column of a book says for each alias which record is the first CAA record or alias of its target.
use Rattle.spec_refusal.specs.declared.RecordNo.{RecordNo}
use Rattle.std.specs.Prelude.{Option, Some, None}
use Prim.Native.Nat.{ℕ, zero, suc, ◌%◌, ◌≤◌, ◌<◌}
use native.Mathlib.Omega.{arith}
use mathlib.Core.Path.{◌≡◌, refl, ◌∙◌}
use mathlib.Core.Logic.{⊎_elim}
use mathlib.Core.Bool.{Bool, true, false, cond}
use mathlib.Core.List.{List}
use lib.Dec.{ltb, eqb}
use lib.ListN.{length, get_or, set, replicate, length-set, length-replicate}
use lib.Seq.{get_or-set_same, get_or-set_other}
use borrow.Author.Tests.{lt-ltb, le-ltb, eqb-true, eqb-false}
use Rattle.spec_limits.specs.Limits.{max_records}
use Rattle.spec_octets.proofs.ListLaws.{true_or_false}
use Rattle.book_places.specs.declared.Kind.TheVariants.{CaaOrAlias}
use Rattle.book_places.specs.Table.{tabled, room_for, table_of, data_at, is_alias_at}
use Rattle.book_places.specs.Chains.{no_record, chains_of}
use Rattle.book_places.specs.Sets.{first_owned, onward_at}
use Rattle.book_places.specs.Onward.{number_found, pointed, pointed_below, onward_of}
use Rattle.book_places.proofs.Bounds.{FirstBelow, owned_first_below}
use Rattle.book_places.proofs.StandingRecords.{room_enough}
use Rattle.book_places.proofs.ChainedRecords.{chains_fit}

module _ (book table links heads : List ℕ) where
  -- the first CAA record or alias of the target of record i
  abbrev head_after : ℕ → Option RecordNo
  head_after i = first_owned CaaOrAlias book table links heads (data_at book table i)

  pub pointed_length : (n : ℕ) (onward : List ℕ) → length (pointed_below book table links heads n onward) ≡ length onward
  pointed_length zero onward = refl
  pointed_length (suc n) onward = go (is_alias_at table n) (pointed_below book table links heads n onward) (pointed_length n onward)
    where
      go : (t : Bool) (o : List ℕ) → length o ≡ length onward → length (cond t (set o n (number_found (head_after n) % 65536)) o) ≡ length onward
      go true o e = length-set o n (number_found (head_after n) % 65536) ∙ e
      go false o e = e

  pointed_at :
      (n : ℕ) (onward : List ℕ) (i d : ℕ) → i < n → n ≤ length onward → is_alias_at table i ≡ true →
      get_or (pointed_below book table links heads n onward) i d ≡ number_found (head_after i) % 65536
  pointed_at zero onward i d h l e = absurd (omega arith)
  pointed_at (suc n) onward i d h l e =
      ⊎_elim (λ same. here (eqb-true i n same)) (λ other. before (eqb-false i n other) (pointed_at n onward i d)) (true_or_false (eqb i n))
    where
      earlier : List ℕ
      earlier = pointed_below book table links heads n onward

      here : i ≡ n → get_or (pointed book table links heads n earlier) i d ≡ number_found (head_after i) % 65536
      here same =
          rw (← same, e)
          (get_or-set_same (pointed_below book table links heads i onward) i (number_found (head_after i) % 65536) d
          (omega (arith, pointed_length i onward)))

      before :
          (i ≡ n → ⊥) → (i < n → n ≤ length onward → is_alias_at table i ≡ true → get_or earlier i d ≡ number_found (head_after i) % 65536) →
          get_or (pointed book table links heads n earlier) i d ≡ number_found (head_after i) % 65536
      before other rest = go (is_alias_at table n)
        where
          go : (t : Bool) → get_or (cond t (set earlier n (number_found (head_after n) % 65536)) earlier) i d ≡ number_found (head_after i) % 65536
          go true =
              get_or-set_other earlier n i (number_found (head_after n) % 65536) d (λ z. other z)
              ∙ rest (omega (arith, other)) (omega arith) e
          go false = rest (omega (arith, other)) (omega arith) e

module _ (book : List ℕ) where
  abbrev links : List ℕ
  links = (chains_of book).links

  few_links : length links ≤ max_records
  few_links = omega (arith, (chains_fit book).0, (room_enough book).1)

  -- a number of the column, read back
  read_back :
      (k : ℕ) (o : Option RecordNo) → FirstBelow links o → k ≡ number_found o % 65536 →
      cond (ltb k (length links)) (Some (record { 0 = k })) None ≡ o
  unfolding max_records no_record
  read_back k None h e = rw (le-ltb k (length links) (omega (arith, few_links)))
  read_back k (Some r) h e =
      let small : k ≡ r.0 = omega (arith, few_links) in
      rw (small, lt-ltb r.0 (length links) h)

  pub onward_told :
      (i : ℕ) → i < length (tabled book) → is_alias_at (table_of book) i ≡ true →
      onward_at links (onward_of book) i ≡ first_owned CaaOrAlias book (table_of book) links (chains_of book).heads (data_at book (table_of book) i)
  unfolding onward_of
  onward_told i h e =
      read_back _ (first_owned CaaOrAlias book (table_of book) links (chains_of book).heads (data_at book (table_of book) i))
      (owned_first_below links book (table_of book) (chains_of book).heads CaaOrAlias (data_at book (table_of book) i))
      (pointed_at book (table_of book) links (chains_of book).heads (length (tabled book)) (replicate (room_for book) no_record) i (length links) h
      (omega (arith, length-replicate (room_for book) no_record, (room_enough book).0)) e)
