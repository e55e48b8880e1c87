-- A walk over the records of an owner along a chain: behind the first of them come the others. An answer over the whole set is the
-- answer over what is left of it.
use Rattle.std.specs.Prelude.{Option, Some, None}
use Prim.Native.Nat.{ℕ, ◌<◌}
use native.Mathlib.Omega.{arith}
use mathlib.Core.Path.{◌≡◌, refl, sym, ◌∙◌}
use mathlib.Core.Bool.{Bool, true, false}
use mathlib.Core.List.{List, [], ◌∷◌}
use lib.ListN.{length}
use borrow.Author.Tests.{lt-ltb}
use Rattle.spec_octets.specs.Lists.{cons_if, select}
use Rattle.spec_refusal.specs.declared.RecordNo.{RecordNo}
use Rattle.book_places.specs.Table.{owner_at, data_at}
use Rattle.book_places.specs.Chains.{behind}
use Rattle.book_places.specs.Sets.{owned_of, owned_from, first_of, set_at, in_set}
use Rattle.book_places.proofs.ChainLaws.{chain_step}
use Rattle.book_places.proofs.SetLaws.{first_owned_lem, first_at}

none_there : (is : List ℕ) → first_of is ≡ None → is ≡ []
none_there [] e = refl
none_there (i ∷ is) e = let z : ◌≡◌ {A = ℕ} 0 1 = cc in absurd (omega arith)

module _ (book table links x : List ℕ) where
  -- the first, and those behind it
  first_of_some :
      (i : ℕ) (r : RecordNo) → first_of (owned_from book table links x i) ≡ Some r →
      owned_from book table links x i ≡ r.0 ∷ owned_from book table links x (behind links r.0)
  unfolding owned_of
  first_of_some i r e =
      let (fs, all) = first_at (owned_from book table links x i) r e in
      let here = first_owned_lem book table links x i r.0 fs all in
      all ∙ sym here.same ∙ rw (chain_step links r.0, lt-ltb r.0 (length links) here.below, here.passes)

  -- o is the answer of next_owned
  module _ (i : ℕ) (o : Option RecordNo) (f : o ≡ first_of (owned_from book table links x i)) where
    pub owned_over : o ≡ None → owned_from book table links x i ≡ []
    owned_over g = none_there (owned_from book table links x i) (sym f ∙ g)

    pub owned_on : (r : RecordNo) → o ≡ Some r → owned_from book table links x i ≡ r.0 ∷ owned_from book table links x (behind links r.0)
    owned_on r g = first_of_some i r (sym f ∙ g)

    pub fewer_left :
        (r : RecordNo) → o ≡ Some r → (j : ℕ) → j ≡ behind links r.0 →
        length (owned_from book table links x j) < length (owned_from book table links x i)
    fewer_left r g j b = rw (b, owned_on r g) (omega arith)

-- a set is named by its first record; x is its owner
module _ {A : Type 0} (answer : List ℕ → A) (test : List ℕ → Bool) (book table links : List ℕ) (first : ℕ) where
  abbrev pub left_from : List ℕ → ℕ → List ℕ
  left_from x i = select (λ j. test (data_at book table j)) (owned_from book table links x i)

  -- the records that the walk has passed do not change the answer
  abbrev pub Left : List ℕ → ℕ → Type 0
  Left x i = answer (in_set test book table links first) ≡ answer (left_from x i)

  pub set_start : (x : List ℕ) → x ≡ owner_at book table first → Left x first
  unfolding set_at
  set_start x e = rw e

  module _ (x : List ℕ) (i : ℕ) (left : Left x i) (o : Option RecordNo) (f : o ≡ first_of (owned_from book table links x i)) where
    pub set_over : o ≡ None → answer [] ≡ answer (in_set test book table links first)
    set_over g = sym (left ∙ rw (owned_over book table links x i o f g))

    -- d is the data of the next record, t what the test says of it
    module _ (r : RecordNo) (g : o ≡ Some r) (d : List ℕ) (told : d ≡ data_at book table r.0) (t : Bool) (s : t ≡ test d) where
      next : answer (in_set test book table links first) ≡ answer (cons_if t r.0 (left_from x (behind links r.0)))
      next = left ∙ rw (owned_on book table links x i o f r g, s, told)

      pub set_passed : t ≡ false → Left x (behind links r.0)
      set_passed e = next ∙ rw e

      pub set_taken : t ≡ true → answer (in_set test book table links first) ≡ answer (r.0 ∷ left_from x (behind links r.0))
      set_taken e = next ∙ rw e
