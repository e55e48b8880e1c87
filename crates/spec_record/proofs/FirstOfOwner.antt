-- Where no record clashes so far, the first CAA record or alias of an owner tells whether a further record of that owner clashes: for code that
-- finds this first record.
use Prim.Native.Nat.{ℕ, suc}
use mathlib.Core.Path.{◌≡◌, refl, sym, ap, ◌∙◌}
use mathlib.Core.Logic.{◌⊎◌, inl, inr, ⊎_elim}
use mathlib.Core.Bool.{Bool, true, false, ◌&&◌, ◌||◌, and-eq-true_iff, and_comm, true≢false}
use mathlib.Core.List.{List, [], ◌∷◌, ◌++◌, map, append_assoc}
use lib.ListN.{length}
use Rattle.spec_octets.specs.Lists.{any, cons_if, select, begins, All, all_nil, all_cons, any_here, any_there}
use Rattle.spec_octets.specs.Octets.{lowered}
use Rattle.spec_octets.proofs.ListLaws.{or_eq_true, or_eq_false, true_or_false, not_passed, any_false}
use Rattle.spec_name.specs.Names.{same_name}
use Rattle.spec_name.proofs.WholeNames.{whole_names}
use Rattle.spec_record.specs.Records.{Record, is_alias, counts, clash, clashes}
use Rattle.spec_record.specs.Theorems.{Clash, ClashAt}
use Rattle.spec_record.proofs.ClashLaws.{clash_exactly}

abbrev pub ClashFree : List Record → Type 0
ClashFree rs = (k : ℕ) → ClashAt rs k → ⊥

-- a record before all others
module _ (x : Record) (xs : List Record) (free : ClashFree (x ∷ xs)) where
  pub free_behind : ClashFree xs
  free_behind k (before, r, after, e, l, h) = free (suc k) (x ∷ before, r, after, ap (◌∷◌ x) e, ap suc l, any_there h)

  pub free_first : (mid rest : List Record) → xs ≡ mid ++ rest → All (λ p. Clash p x → ⊥) rest
  free_first mid [] e = all_nil
  free_first mid (p ∷ rest) e =
      all_cons (λ c. free (suc (length mid)) (x ∷ mid, p, rest, ap (◌∷◌ x) e, refl, any_here c))
      (free_first (mid ++ (p ∷ [])) rest (e ∙ sym (append_assoc mid (p ∷ []) rest)))

any_select :
    {A : Type 0} (p q t : A → Bool) → ((x : A) → t x ≡ p x && q x) → (xs : List A) → any t xs ≡ any q (select p xs)
any_select p q t law [] = refl
any_select p q t law (x ∷ xs) = rw (law x) (go (p x) (any_select p q t law xs))
  where
    go : (b : Bool) → any t xs ≡ any q (select p xs) → (b && q x) || any t xs ≡ any q (cons_if b x (select p xs))
    go true e = ap (◌||◌ (q x)) e
    go false e = e

module _ (r : Record) where
  -- a record of the owner of r that counts
  abbrev pub is_rival : Record → Bool
  is_rival p = counts p && same_name r.owner p.owner

  -- r or the other record is an alias
  abbrev pub with_alias : Record → Bool
  with_alias p = is_alias r.type r.class || is_alias p.type p.class

  -- two records of the owner of r that don't clash: what is said of r and the one holds of r and the other
  alike : (x p : Record) → is_rival x ≡ true → is_rival p ≡ true → (Clash p x → ⊥) → with_alias x ≡ false → with_alias p ≡ false
  alike x p rival-x rival-p apart plain = not_passed (with_alias p) (λ e. ⊎_elim (λ f. true≢false (sym f ∙ none.0)) clashing ((or_eq_true _ _).0 e))
    where
      none : (is_alias r.type r.class ≡ false) × (is_alias x.type x.class ≡ false)
      none = (or_eq_false _ _).0 plain

      owner : (q : Record) → is_rival q ≡ true → map lowered r.owner ≡ map lowered q.owner
      owner q h = (whole_names.0 r.owner q.owner).0 ((and-eq-true_iff (counts q) _).0 h).1

      clashing : is_alias p.type p.class ≡ true → ⊥
      clashing f =
          let same = (whole_names.0 p.owner x.owner).1 (sym (owner p rival-p) ∙ owner x rival-x) in
          let together = (and-eq-true_iff _ _).1 ((or_eq_true _ _).1 (inl f), same) in
          apart ((clash_exactly p x ((and-eq-true_iff (counts p) _).0 rival-p).0).0
          ((and-eq-true_iff (counts x) (clash p x)).1 (((and-eq-true_iff (counts x) _).0 rival-x).0, together)))

  none_alias :
      (x : Record) → is_rival x ≡ true → with_alias x ≡ false → (xs : List Record) → All (λ p. Clash p x → ⊥) xs →
      All (λ p. with_alias p ≡ false) (select is_rival xs)
  none_alias x rival plain [] all_nil = all_nil
  none_alias x rival plain (p ∷ xs) (all_cons n ns) = go (true_or_false (is_rival p)) (none_alias x rival plain xs ns)
    where
      go :
          (is_rival p ≡ true) ⊎ (is_rival p ≡ false) → All (λ p. with_alias p ≡ false) (select is_rival xs) →
          All (λ p. with_alias p ≡ false) (cons_if (is_rival p) p (select is_rival xs))
      go (inl e) rest = rw e (all_cons (alike x p rival e n plain) rest)
      go (inr e) rest = rw e rest

  by_the_first : (xs : List Record) → ClashFree xs → any with_alias (select is_rival xs) ≡ begins with_alias (select is_rival xs)
  by_the_first [] free = refl
  by_the_first (x ∷ xs) free = go (true_or_false (is_rival x)) (true_or_false (with_alias x)) (by_the_first xs)
    where
      go :
          (is_rival x ≡ true) ⊎ (is_rival x ≡ false) → (with_alias x ≡ true) ⊎ (with_alias x ≡ false) →
          (ClashFree xs → any with_alias (select is_rival xs) ≡ begins with_alias (select is_rival xs)) →
          any with_alias (cons_if (is_rival x) x (select is_rival xs)) ≡ begins with_alias (cons_if (is_rival x) x (select is_rival xs))
      go (inl e) (inl f) rest = rw (e, f)
      go (inl e) (inr f) rest = rw (e, f) ((any_false with_alias _).1 (none_alias x e f xs (free_first x xs free [] xs refl)))
      go (inr e) f rest = rw e (rest (free_behind x xs free))

  -- of the records before r that count and have its owner, the first alone is asked
  pub clashes_by_first :
      (before : List Record) → ClashFree before → counts r ≡ true → clashes r before ≡ begins with_alias (select is_rival before)
  unfolding clashes
  clashes_by_first before free counting =
      rw counting (any_select is_rival with_alias _ (λ p. turned (counts p) (with_alias p) (same_name r.owner p.owner)) before)
      ∙ by_the_first before free
    where
      turned : (c a s : Bool) → c && (a && s) ≡ (c && s) && a
      turned true a s = and_comm a s
      turned false a s = refl
