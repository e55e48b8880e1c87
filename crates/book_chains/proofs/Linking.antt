-- The loop of `link`: what is left to link gives the same chains; a law for each way out. And the small functions that it calls.
use Prim.Native.Nat.{ℕ, zero, suc, min, ◌-◌, ◌≤◌, ◌<◌}
use native.Mathlib.Omega.{arith}
use mathlib.Core.Path.{◌≡◌, refl, sym, ap, ◌∙◌}
use mathlib.Core.Bool.{Bool, true, false, cond}
use mathlib.Core.List.{List}
use lib.Dec.{leb}
use lib.ListN.{length, get_or, set, length-set}
use lib.Seq.{set_out}
use borrow.Author.Tests.{le-leb, leb-true, leb-false}
use Rattle.spec_limits.specs.Limits.{max_records}
use Rattle.book_places.specs.Table.{tabled, owner_at}
use Rattle.book_places.specs.Keys.{key_of}
use Rattle.book_places.specs.Chains.{Chains, linked, linked_below, at_most, chains_of}
use Rattle.book_places.proofs.StandingRecords.{few_tabled}
use Rattle.book_chains.specs.Theorems.{BookLinked}

pub within_limit : (limit n : ℕ) → n ≤ limit → n ≡ at_most limit n
within_limit limit n h = rw (le-leb n limit h)

pub limited : (limit n i : ℕ) → i ≡ at_most limit n → i ≤ limit
limited limit n i e = by (leb n limit) refl e
  where
    by : (t : Bool) → leb n limit ≡ t → i ≡ cond t n limit → i ≤ limit
    by true h e = omega (arith, leb-true n limit h)
    by false h e = omega arith

-- the code asks for the lesser of the two
pub lesser : (limit n i : ℕ) → i ≡ min n limit → i ≡ at_most limit n
lesser limit n i e = by (leb n limit) refl
  where
    by : (t : Bool) → leb n limit ≡ t → i ≡ cond t n limit
    by true h = omega (arith, leb-true n limit h)
    by false h = omega (arith, leb-false n limit h)

pub no_place : (xs : List ℕ) (at x : ℕ) → length xs ≤ at → xs ≡ set xs at x
no_place xs at x h = sym (set_out xs at x h)

-- linking leaves the lengths
module _ (book table : List ℕ) where
  links_length : (n : ℕ) (c : Chains) → length (linked_below book table n c).links ≡ length c.links
  links_length zero c = refl
  links_length (suc n) c = links_length n (linked book table n c) ∙ length-set c.links _ _

  heads_length : (n : ℕ) (c : Chains) → length (linked_below book table n c).heads ≡ length c.heads
  heads_length zero c = refl
  heads_length (suc n) c = heads_length n (linked book table n c) ∙ length-set c.heads _ _

module _ (book table l₀ h₀ : List ℕ) (m : ℕ) where
  -- the first m records linked
  abbrev whole : Chains
  whole = linked_below book table m (record { links = l₀; heads = h₀ })

  -- what is left to do from the record i down gives them
  pub record Left (links heads : List ℕ) (i : ℕ) : Type 0 where
    pub same : whole ≡ linked_below book table i (record { links = links; heads = heads })

  pub nothing_linked : (i : ℕ) → i ≡ m → Left l₀ h₀ i
  nothing_linked i e = record { same = rw e }

  module _ (links heads : List ℕ) (i : ℕ) (left : Left links heads i) where
    pub linked_on :
        (links' heads' : List ℕ) (j key h : ℕ) (owner : List ℕ) → links' ≡ set links j h → heads' ≡ set heads key j → h ≡ get_or heads key 0 →
        key ≡ key_of owner → owner ≡ owner_at book table j → 0 < i → j ≡ i - 1 → Left links' heads' j
    linked_on links' heads' j key h owner el eheads eh ek eo pos ej =
        let next : i ≡ suc j = omega arith in
        let one : linked_below book table i (record { links = links; heads = heads }) ≡ linked_below book table j (record { links = links'; heads = heads' }) =
        rw (next, el, eheads, eh, ek, eo)
        in
        record { same = left.same ∙ one }

    pub links_told : i ≤ 0 → links ≡ whole.links
    links_told h = let none : i ≡ 0 = omega arith in rw (left.same, none)

    pub heads_told : i ≤ 0 → heads ≡ whole.heads
    heads_told h = let none : i ≡ 0 = omega arith in rw (left.same, none)

    pub links_long : length links ≡ length l₀
    links_long = sym (links_length book table i _) ∙ sym (ap (λ (c : Chains). length c.links) left.same) ∙ links_length book table m _

    pub heads_long : length heads ≡ length h₀
    heads_long = sym (heads_length book table i _) ∙ sym (ap (λ (c : Chains). length c.heads) left.same) ∙ heads_length book table m _

pub book_linked : BookLinked
unfolding chains_of
book_linked book = rw (← within_limit max_records (length (tabled book)) (few_tabled book))
