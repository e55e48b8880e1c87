-- The first CAA record or alias of a name, by the table and the chains of an accepted book, says whether the name has an alias, and which.
use Rattle.std.specs.Prelude.{Option, None, Some}
use Prim.Native.Nat.{ℕ, zero, suc, ◌+◌, ◌<◌}
use native.Mathlib.Omega.{arith}
use mathlib.Core.Path.{◌≡◌, refl, sym, ap, ◌∙◌}
use mathlib.Core.Logic.{◌⊎◌, inl, inr, ⊎_elim}
use mathlib.Core.Bool.{Bool, true, false, cond, ◌&&◌, ◌||◌, and-false, or-true}
use mathlib.Core.List.{List, [], ◌∷◌, ◌++◌, map}
use lib.ListN.{length}
use Rattle.spec_refusal.specs.declared.RecordNo.{RecordNo}
use Rattle.spec_octets.specs.Lists.{cons_if, select, All, all_nil, all_cons}
use Rattle.spec_octets.specs.Octets.{lowered}
use Rattle.spec_octets.proofs.ListLaws.{true_or_false, not_passed}
use Rattle.spec_name.specs.Names.{Name, wire, same_name, GoodName}
use Rattle.spec_name.proofs.WholeNames.{whole_names}
use Rattle.spec_record.specs.Records.{Record, is_caa, is_alias, target, records, book_refusal}
use Rattle.spec_record.specs.Kinds.{kept}
use Rattle.spec_record.specs.Theorems.{Clash}
use Rattle.spec_record.proofs.AliasLaws.{target_is_its_name}
use Rattle.spec_record.proofs.KindLaws.{caa_exactly, alias_exactly}
use Rattle.spec_record.proofs.FirstOfOwner.{ClashFree, free_behind, free_first}
use Rattle.spec_rule.specs.Aliases.{Alias, as_alias, aliases_from, aliases, aliases_of}
use Rattle.book_places.specs.declared.Kind.TheVariants.{CaaOrAlias}
use Rattle.book_places.specs.Table.{tabled, table_of, data_at, is_alias_at}
use Rattle.book_places.specs.Chains.{chains_of}
use Rattle.book_places.specs.Sets.{is_owned_of, first_of, first_owned}
use Rattle.book_places.specs.Theorems.{numbers_from}
use Rattle.book_places.proofs.AcceptedBook.{clash_free, HoldsData, records_hold}
use Rattle.book_places.proofs.TableLaws.{TellsFrom, rows_tell, good_owners}
use Rattle.book_places.proofs.ChainedRecords.{chains_skip_nothing}
use Rattle.book_places.proofs.LookLaws.{accepted_tabled}

module _ (book table : List ℕ) where
  -- record i is an alias, the first of these
  pub record First (i : ℕ) (al : List Alias) : Type 0 where
    pub is_alias_lem : is_alias_at table i ≡ true
    pub alias : Alias
    pub others : List Alias
    pub stands : al ≡ alias ∷ others
    pub leads : data_at book table i ≡ wire alias.target
    pub target_good : GoodName alias.target

  -- the aliases of a name, by the first CAA record or alias of that name
  abbrev pub Says : List Alias → Option RecordNo → Type 0
  Says al None = al ≡ []
  Says al (Some r) = ((is_alias_at table r.0 ≡ false) × (al ≡ [])) ⊎ First r.0 al

  module _ (x : Name) (good : GoodName x) where
    abbrev having : ℕ → List Record → List Alias
    having k rs = aliases_of (aliases_from k rs) x

    -- a record that is no alias, or has another owner, adds none
    passed : (k : ℕ) (r : Record) (rs : List Record) → (is_alias r.type r.class ≡ false) ⊎ (same_name r.owner x ≡ false) → having k (r ∷ rs) ≡ having (suc k) rs
    passed k r rs (inl e) = rw e
    passed k r rs (inr e) = go (is_alias r.type r.class) (target r.rdata)
      where
        go :
            (t : Bool) (o : Option Name) →
            aliases_of (cond t (kept (as_alias k r.owner) o) [] ++ aliases_from (suc k) rs) x ≡ having (suc k) rs
        go false o = refl
        go true None = refl
        go true (Some a) = rw e

    -- no alias of x comes after a CAA record of x
    none_later :
        (r : Record) → is_caa r.type r.class ≡ true → same_name r.owner x ≡ true → (k : ℕ) (rs : List Record) → All (λ p. Clash p r → ⊥) rs →
        having k rs ≡ []
    none_later r caa owned k [] all_nil = refl
    none_later r caa owned k (q ∷ rs) (all_cons apart more) = passed k q rs (⊎_elim other inl (true_or_false (is_alias q.type q.class))) ∙ none_later r caa owned (suc k) rs more
      where
        same_owner : same_name q.owner x ≡ true → map lowered q.owner ≡ map lowered r.owner
        same_owner f = (whole_names.0 q.owner x).0 f ∙ sym ((whole_names.0 r.owner x).0 owned)

        other : is_alias q.type q.class ≡ true → (is_alias q.type q.class ≡ false) ⊎ (same_name q.owner x ≡ false)
        other e = inr (not_passed (same_name q.owner x)
            (λ f. apart (same_owner f, inl ((alias_exactly q.type q.class).0 e, (caa_exactly r.type r.class).0 caa))))

    first_says :
        (k : ℕ) (rs : List Record) → TellsFrom book table k rs → All (λ r. GoodName r.owner) rs → All HoldsData rs → ClashFree rs →
        Says (having k rs) (first_of (select (is_owned_of CaaOrAlias book table (wire x)) (numbers_from k (length rs))))
    first_says k [] t all_nil all_nil free = refl
    first_says k (r ∷ rs) t (all_cons owner-good gs) (all_cons holds hs) free =
        rw (t.0.caa, t.0.alias, t.0.owner, ← whole_names.1 r.owner x owner-good good)
        (go (is_alias r.type r.class) refl (is_caa r.type r.class) refl (same_name r.owner x) refl
        (first_says (suc k) rs t.1 gs hs (free_behind r rs free)))
      where
        later : List ℕ
        later = select (is_owned_of CaaOrAlias book table (wire x)) (numbers_from (suc k) (length rs))

        go :
            (a : Bool) → is_alias r.type r.class ≡ a → (c : Bool) → is_caa r.type r.class ≡ c → (s : Bool) → same_name r.owner x ≡ s →
            Says (having (suc k) rs) (first_of later) → Says (having k (r ∷ rs)) (first_of (cons_if ((c || a) && s) k later))
        go a e c f false g rest = rw (and-false (c || a), passed k r rs (inr g)) rest
        go false e false f true g rest = rw (passed k r rs (inl e)) rest
        go false e true f true g rest =
            inl (t.0.alias ∙ e, passed k r rs (inl e) ∙ none_later r f g (suc k) rs (free_first r rs free [] rs refl))
        go true e c f true g rest =
            let (type, class) = (alias_exactly r.type r.class).0 e in
            let (n, whole, valid) = holds.1 type class in
            rw (or-true c) (inr (record {
              is_alias_lem = t.0.alias ∙ e;
              alias = as_alias k r.owner n;
              others = having (suc k) rs;
              stands = rw (e, (target_is_its_name r.rdata n).1 (whole, valid), g);
              leads = t.0.rdata ∙ whole;
              target_good = valid;
            }))

-- the first of some numbers in a row is one of them
first_within : (p : ℕ → Bool) (k n : ℕ) (r : RecordNo) → first_of (select p (numbers_from k n)) ≡ Some r → r.0 < k + n
first_within p k zero r e = let z : ◌≡◌ {A = ℕ} 0 1 = cc in absurd (omega arith)
first_within p k (suc n) r e = go (p k) e (first_within p (suc k) n r)
  where
    go :
        (t : Bool) → first_of (cons_if t k (select p (numbers_from (suc k) n))) ≡ Some r →
        (first_of (select p (numbers_from (suc k) n)) ≡ Some r → r.0 < suc k + n) → r.0 < k + suc n
    go true f later = let same : k ≡ r.0 = cc in omega arith
    go false f later = omega (arith, later f)

module _ (book : List ℕ) (accepted : book_refusal book ≡ None) (x : Name) (good : GoodName x) where
  abbrev pub head_of : Option RecordNo
  head_of = first_owned CaaOrAlias book (table_of book) (chains_of book).links (chains_of book).heads (wire x)

  head_first : head_of ≡ first_of (select (is_owned_of CaaOrAlias book (table_of book) (wire x)) (numbers_from 0 (length (tabled book))))
  unfolding first_owned
  head_first = ap first_of (chains_skip_nothing CaaOrAlias book (wire x))

  pub head_says : Says book (table_of book) (aliases_of (aliases (records book)) x) head_of
  head_says =
      rw (head_first, ← accepted_tabled book accepted)
      (first_says book (table_of book) x good 0 (tabled book) (rows_tell book) (good_owners book)
      (rw (accepted_tabled book accepted) (records_hold book))
      (rw (accepted_tabled book accepted) (clash_free book accepted)))

  pub head_within : (r : RecordNo) → head_of ≡ Some r → r.0 < length (tabled book)
  head_within r e = omega (arith, first_within _ 0 (length (tabled book)) r (sym head_first ∙ e))
