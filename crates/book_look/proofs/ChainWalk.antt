-- The walk along a chain: what is left of it gives the same first record; a law for each way out.
use Rattle.spec_refusal.specs.declared.RecordNo.{RecordNo}
use Rattle.std.specs.Prelude.{Option, Some, None}
use Prim.Native.Nat.{ℕ, zero, suc, ◌-◌, ◌≤◌, ◌<◌}
use native.Mathlib.Nat.{not-suc-le-zero}
use native.Mathlib.Omega.{arith}
use mathlib.Core.Path.{◌≡◌, refl, sym, ◌∙◌}
use mathlib.Core.Bool.{Bool, true, false}
use mathlib.Core.List.{List, [], ◌∷◌}
use lib.ListN.{length, get_or, get_or-eq_default}
use borrow.Author.Tests.{lt-ltb, le-ltb}
use Rattle.spec_octets.specs.Lists.{cons_if}
use Rattle.spec_octets.specs.Octets.{equal_ignoring_case}
use Rattle.spec_octets.proofs.Texts.{same_text}
use Rattle.book_places.specs.declared.Kind.{Kind}
use Rattle.book_places.specs.declared.Kind.TheVariants.{Caa, CaaOrAlias}
use Rattle.book_places.specs.Table.{owner_at, is_caa_at, is_alias_at}
use Rattle.book_places.specs.Keys.{key_of}
use Rattle.book_places.specs.Chains.{behind}
use Rattle.book_places.specs.Sets.{is_of_kind, is_owned_of, owned_of, owned_from, first_of, first_owned}
use Rattle.book_places.proofs.ChainLaws.{behind_later, chain_step}

-- inside a list no default is read
inside : (s : List ℕ) (i d e : ℕ) → i < length s → get_or s i d ≡ get_or s i e
inside [] i d e h = absurd (not-suc-le-zero h)
inside (x ∷ s) zero d e h = refl
inside (x ∷ s) (suc i) d e h = inside s i d e (omega arith)

-- c says whether the record is a CAA record, a whether it is an alias
module _ (table : List ℕ) (i : ℕ) (c : Bool) (is_c : c ≡ is_caa_at table i) where
  pub caa_of_kind : (kind : Kind) → c ≡ true → true ≡ is_of_kind kind table i
  caa_of_kind Caa e = sym e ∙ is_c
  caa_of_kind CaaOrAlias e = rw (← is_c, e)

  pub other_kind : (kind : Kind) → c ≡ false → kind ≡ Caa → false ≡ is_of_kind kind table i
  other_kind kind e k = rw k (sym e ∙ is_c)

  pub alias_of_kind : (kind : Kind) (a : Bool) → c ≡ false → kind ≡ CaaOrAlias → a ≡ is_alias_at table i → a ≡ is_of_kind kind table i
  alias_of_kind kind a e k f = rw (k, ← is_c, e) f

module _ (kind : Kind) (book table x : List ℕ) (i : ℕ) where
  pub not_of_kind : (b : Bool) → b ≡ is_of_kind kind table i → b ≡ false → false ≡ is_owned_of kind book table x i
  not_of_kind b e f = rw (← e, f)

  pub kind_owned :
      (b m : Bool) (owner : List ℕ) → b ≡ is_of_kind kind table i → b ≡ true → m ≡ equal_ignoring_case owner x → owner ≡ owner_at book table i →
      m ≡ is_owned_of kind book table x i
  kind_owned b m owner e f g h = rw (← e, f, ← h, g)

module _ (kind : Kind) (book table links x : List ℕ) where
  abbrev owned : ℕ → List ℕ
  owned i = owned_of kind book table links x i

  chain_over : (i : ℕ) → length links ≤ i → owned i ≡ []
  unfolding owned_of
  chain_over i h = rw (chain_step, le-ltb i (length links) h)

  owned_step : (i : ℕ) → i < length links → owned i ≡ cons_if (is_owned_of kind book table x i) i (owned (behind links i))
  unfolding owned_of
  owned_step i h = rw (chain_step links i, lt-ltb i (length links) h)

  module _ (from i : ℕ) (left : first_of (owned from) ≡ first_of (owned i)) where
    pub none_owned : length links ≤ i → None ≡ first_of (owned from)
    none_owned h = sym (left ∙ rw (chain_over i h))

    module _ (b : Bool) (h : i < length links) (e : b ≡ is_owned_of kind book table x i) where
      pub one_owned : b ≡ true → Some (record { 0 = i }) ≡ first_of (owned from)
      one_owned t = sym (left ∙ rw (owned_step i h, ← e, t))

      pub passed_over : (j : ℕ) → b ≡ false → j ≡ behind links i → first_of (owned from) ≡ first_of (owned j)
      passed_over j t next = left ∙ rw (owned_step i h, ← e, t, next)

  pub less_left : (i j : ℕ) → i < length links → j ≡ behind links i → length links - j < length links - i
  less_left i j h e = omega (arith, behind_later links i h)

  module _ (heads : List ℕ) (k : ℕ) (e : k ≡ key_of x) where
    pub no_chain : length heads ≤ k → None ≡ first_owned kind book table links heads x
    unfolding first_owned
    no_chain h = rw (← e, get_or-eq_default heads (length links) h, chain_over (length links) (omega arith))

    pub chain_begins :
        (r : Option RecordNo) → k < length heads → r ≡ first_of (owned_of kind book table links x (get_or heads k 0)) → r ≡ first_owned kind book table links heads x
    unfolding first_owned
    chain_begins r h f = rw (← e, inside heads k (length links) 0 h) f

-- a set is named by its first record
module _ (book table links : List ℕ) (first from : ℕ) where
  pub first_itself :
      from ≡ first → first < length links → (b : Bool) → b ≡ is_caa_at table first → b ≡ true →
      Some (record { 0 = first }) ≡ first_of (owned_from book table links (owner_at book table first) from)
  first_itself e h b f g =
      rw (e, owned_step Caa book table links (owner_at book table first) first h, ← f, g, (same_text (owner_at book table first) (owner_at book table first)).1 refl)

  pub with_its_owner :
      (r : Option RecordNo) (x : List ℕ) → r ≡ first_of (owned_from book table links x from) → x ≡ owner_at book table first →
      r ≡ first_of (owned_from book table links (owner_at book table first) from)
  with_its_owner r x f e = f ∙ rw e
