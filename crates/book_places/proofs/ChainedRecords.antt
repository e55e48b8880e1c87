-- Along the chain of a key stand the records with that key, all of them and in their order; so along that of a text, all that it owns.
use Prim.Native.Nat.{ℕ, zero, suc, ◌+◌, ◌≤◌, ◌<◌}
use native.Mathlib.Omega.{arith}
use mathlib.Core.Path.{◌≡◌, refl, sym, ap, subst, ◌∙◌}
use mathlib.Core.Logic.{◌⊎◌, inl, inr}
use mathlib.Core.Bool.{Bool, true, false, cond, true≢false}
use mathlib.Core.List.{List, [], ◌∷◌}
use lib.Dec.{ltb, eqb}
use lib.ListN.{length, get_or, set, replicate, length-set, length-replicate, get_or-replicate}
use lib.Seq.{get_or-set_same, get_or-set_other}
use borrow.Author.Tests.{ltb-true, lt-ltb, le-ltb, eqb-true, eqb-false, eq-eqb}
use Rattle.spec_limits.specs.Limits.{max_records}
use Rattle.spec_octets.specs.Lists.{cons_if, select}
use Rattle.spec_octets.proofs.ListLaws.{true_or_false}
use Rattle.book_places.specs.declared.Kind.{Kind}
use Rattle.book_places.specs.Table.{tabled, room_for, table_of, owner_at}
use Rattle.book_places.specs.Keys.{key_of}
use Rattle.book_places.specs.Chains.{Chains, linked, linked_below, no_record, unlinked, chains_of, behind, along, chain_from}
use Rattle.book_places.specs.Sets.{is_owned_of, owned_of}
use Rattle.book_places.specs.Theorems.{numbers_from, ChainsFit, ChainsSkipNothing}
use Rattle.book_places.proofs.ChainLaws.{behind_later, chain_step}
use Rattle.book_places.proofs.KeyLaws.{key_below, same_key}
use Rattle.book_places.proofs.SetLaws.{owned_both}
use Rattle.book_places.proofs.StandingRecords.{room_enough}

-- inside a list it is the same what a number past its end would be
inside : (l : List ℕ) (i a b : ℕ) → i < length l → get_or l i a ≡ get_or l i b
inside [] i a b h = absurd (omega arith)
inside (x ∷ l) zero a b h = refl
inside (x ∷ l) (suc i) a b h = inside l i a b (omega arith)

-- a link that is changed before a record changes nothing of the chain from there on
module _ (links : List ℕ) (i v : ℕ) where
  behind_same : (j : ℕ) → i < j → behind (set links i v) j ≡ behind links j
  unfolding behind
  behind_same j h = rw (get_or-set_other links i j v 0 (λ e. omega arith), length-set)

  along_same : (steps j : ℕ) → i < j → along steps (set links i v) j ≡ along steps links j
  along_same zero j h = refl
  along_same (suc steps) j h =
      rw (length-set links i v, behind_same j h) (go (ltb j (length links)) refl (along_same steps (behind links j)))
    where
      go :
          (t : Bool) → ltb j (length links) ≡ t →
          (i < behind links j → along steps (set links i v) (behind links j) ≡ along steps links (behind links j)) →
          cond t (j ∷ along steps (set links i v) (behind links j)) [] ≡ cond t (j ∷ along steps links (behind links j)) []
      go true e rest = ap (◌∷◌ j) (rest (omega (arith, behind_later links j (ltb-true j (length links) e))))
      go false e rest = refl

  chain_same : (j : ℕ) → i < j → chain_from (set links i v) j ≡ chain_from links j
  unfolding chain_from
  chain_same j h = rw (length-set links i v) (along_same (length links) j h)

-- those that pass a second test, where these all pass the first
select_within :
    {A : Type 0} (p q : A → Bool) → ((x : A) → q x ≡ true → p x ≡ true) → (xs : List A) → select q (select p xs) ≡ select q xs
select_within p q h [] = refl
select_within p q h (x ∷ xs) = go (p x) (q x) refl refl (select_within p q h xs)
  where
    go :
        (s t : Bool) → p x ≡ s → q x ≡ t → select q (select p xs) ≡ select q xs →
        select q (cons_if s x (select p xs)) ≡ cons_if t x (select q xs)
    go true t e f rest = rw f (ap (cons_if t x) rest)
    go false true e f rest = let z : true ≡ false = sym (h x f) ∙ e in absurd (true≢false z)
    go false false e f rest = rest

-- no book has a record of the number that ends a chain
none_there : max_records ≤ no_record
unfolding max_records no_record
none_there = omega arith

-- with room for so many records
module _ (book table : List ℕ) (room : ℕ) (most : room ≤ max_records) where
  abbrev key : ℕ → ℕ
  key i = key_of (owner_at book table i)

  abbrev has_key : ℕ → ℕ → Bool
  has_key h i = eqb (key i) h

  -- m records from i on stand in the chains of their keys
  record Linked (i m : ℕ) (c : Chains) : Type 0 where
    links_long : length c.links ≡ room
    heads_long : length c.heads ≡ max_records
    later : (h : ℕ) → h < max_records → i ≤ get_or c.heads h no_record
    told : (h : ℕ) → h < max_records → chain_from c.links (get_or c.heads h no_record) ≡ select (has_key h) (numbers_from i m)

  module _ (i m : ℕ) (c : Chains) (w : Linked (suc i) m c) (small : i < room) where
    abbrev next : Chains
    next = linked book table i c

    -- the record that was the first of the key, or the end
    abbrev second : ℕ
    second = get_or c.heads (key i) 0

    second_head : second ≡ get_or c.heads (key i) no_record
    second_head = inside c.heads (key i) 0 no_record (rw w.heads_long (key_below (owner_at book table i)))

    second_later : i < second
    second_later = rw second_head (w.later (key i) (key_below (owner_at book table i)))

    behind_new : behind next.links i ≡ second
    unfolding behind
    behind_new = rw (get_or-set_same c.links i second 0 (rw w.links_long small), lt-ltb i second second_later)

    head_new : get_or next.heads (key i) no_record ≡ i
    head_new = get_or-set_same c.heads (key i) i no_record (rw w.heads_long (key_below (owner_at book table i)))

    head_old : (h : ℕ) → (key i ≡ h → ⊥) → get_or next.heads h no_record ≡ get_or c.heads h no_record
    head_old h other = get_or-set_other c.heads (key i) h i no_record (λ e. other (sym e))

    next_long : length next.links ≡ room
    next_long = rw (length-set c.links i second) w.links_long

    chain_new : chain_from next.links i ≡ i ∷ select (has_key (key i)) (numbers_from (suc i) m)
    chain_new =
        rw (chain_step next.links i, lt-ltb i (length next.links) (rw next_long small), behind_new, chain_same c.links i second second second_later)
        (ap (◌∷◌ i) (ap (chain_from c.links) second_head ∙ w.told (key i) (key_below (owner_at book table i))))

    chain_told :
        (h : ℕ) → h < max_records → (eqb (key i) h ≡ true) ⊎ (eqb (key i) h ≡ false) →
        chain_from next.links (get_or next.heads h no_record) ≡ select (has_key h) (numbers_from i (suc m))
    chain_told h k (inl e) =
        let At : ℕ → Type 0 = λ x. chain_from next.links (get_or next.heads x no_record) ≡ select (has_key x) (numbers_from i (suc m)) in
        subst At (eqb-true (key i) h e) (rw (eq-eqb (key i) (key i) refl, head_new) chain_new)
    chain_told h k (inr e) =
        rw (e, head_old h (eqb-false (key i) h e), chain_same c.links i second (get_or c.heads h no_record) (w.later h k)) (w.told h k)

    head_later : (h : ℕ) → h < max_records → (eqb (key i) h ≡ true) ⊎ (eqb (key i) h ≡ false) → i ≤ get_or next.heads h no_record
    head_later h k (inl e) = let same = eqb-true (key i) h e in rw (← same, head_new) (omega arith)
    head_later h k (inr e) = rw (head_old h (eqb-false (key i) h e)) (omega (arith, w.later h k))

    one_more_lem : Linked i (suc m) next
    one_more_lem = record {
      links_long = next_long;
      heads_long = rw (length-set c.heads (key i) i) w.heads_long;
      later = λ h k. head_later h k (true_or_false (eqb (key i) h));
      told = λ h k. chain_told h k (true_or_false (eqb (key i) h));
    }

  all_linked : (i m : ℕ) (c : Chains) → i ≤ room → Linked i m c → Linked 0 (i + m) (linked_below book table i c)
  all_linked zero m c h w = let same : 0 + m ≡ m = omega arith in rw same w
  all_linked (suc i) m c h w =
      let same : suc i + m ≡ i + suc m = omega arith in
      rw same (all_linked i (suc m) (linked book table i c) (omega arith) (one_more_lem i m c w h))

  none_linked : (n : ℕ) → n ≤ room → Linked n 0 (unlinked room)
  none_linked n h = record {
    links_long = length-replicate room no_record;
    heads_long = length-replicate max_records no_record;
    later = λ k l. rw (get_or-replicate max_records k no_record no_record l) (omega (arith, none_there));
    told = λ k l.
        rw (
          get_or-replicate max_records k no_record no_record l,
          chain_step (replicate room no_record) no_record,
          length-replicate room no_record,
          le-ltb no_record room (omega (arith, none_there)),
        );
  }

  linked_below_lem : (n : ℕ) → n ≤ room → Linked 0 n (linked_below book table n (unlinked room))
  linked_below_lem n h = let same : n + 0 ≡ n = omega arith in rw same at (all_linked n 0 (unlinked room) h (none_linked n h))

  -- what a text owns has its key
  owned_key : (kind : Kind) (x : List ℕ) (i : ℕ) → is_owned_of kind book table x i ≡ true → has_key (key_of x) i ≡ true
  owned_key kind x i e = eq-eqb (key i) (key_of x) (same_key (owner_at book table i) x (owned_both kind book table x i e).1)

  module _ (n : ℕ) (c : Chains) (w : Linked 0 n c) where
    owned_told :
        (kind : Kind) (x : List ℕ) →
        owned_of kind book table c.links x (get_or c.heads (key_of x) (length c.links)) ≡ select (is_owned_of kind book table x) (numbers_from 0 n)
    unfolding owned_of
    owned_told kind x =
        rw (
          inside c.heads (key_of x) (length c.links) no_record (rw w.heads_long (key_below x)),
          w.told (key_of x) (key_below x),
        )
        (select_within (has_key (key_of x)) (is_owned_of kind book table x) (owned_key kind x) (numbers_from 0 n))

chains_linked : (book : List ℕ) → Linked book (table_of book) (room_for book) (room_enough book).1 0 (length (tabled book)) (chains_of book)
unfolding chains_of
chains_linked book = linked_below_lem book (table_of book) (room_for book) (room_enough book).1 (length (tabled book)) (room_enough book).0

pub chains_fit : ChainsFit
chains_fit book = ((chains_linked book).links_long, (chains_linked book).heads_long)

pub chains_skip_nothing : ChainsSkipNothing
chains_skip_nothing kind book x = owned_told book (table_of book) (room_for book) (room_enough book).1 (length (tabled book)) (chains_of book) (chains_linked book) kind x
