-- A look at a name, by a table that tells of the records and chains that skip none, finds what the rule's lookup finds.
use Rattle.std.proofs.lemmas.Option.{none-some}
use Rattle.std.specs.Prelude.{Option, None, Some}
use Prim.Native.Nat.{ℕ, zero, suc, ◌+◌, ◌<◌}
use native.Mathlib.Omega.{arith}
use mathlib.Core.Path.{◌≡◌, refl, sym, ap, ◌∙◌}
use mathlib.Core.Logic.{◌⊎◌, inl, inr, ⊎_elim}
use mathlib.Core.Bool.{Bool, true, false, cond, ◌&&◌, ◌||◌, and-false, or-true, true≢false}
use mathlib.Core.List.{List, [], ◌∷◌, ◌++◌, map}
use lib.Dec.{ltb}
use lib.ListN.{length, get_or}
use borrow.Author.Tests.{ltb-false, le-leb}
use Rattle.spec_limits.specs.Limits.{max_book_octets, max_aliases}
use Rattle.spec_refusal.specs.declared.RecordNo.{RecordNo}
use Rattle.spec_refusal.specs.declared.Refusal.TheVariants.{BookTooLong}
use Rattle.spec_octets.specs.Lists.{cons_if, select, All, all_nil, all_cons}
use Rattle.spec_octets.proofs.ListLaws.{All-join, true_or_false, not_passed}
use Rattle.spec_octets.specs.Octets.{lowered}
use Rattle.spec_name.specs.Names.{Name, wire, same_name, GoodName}
use Rattle.spec_name.proofs.WholeNames.{whole_names}
use Rattle.spec_record.specs.Property.{Property, property}
use Rattle.spec_record.specs.Records.{Record, is_caa, is_alias, target, record_refusal, record_items, records, layout_refusal, book_refusal}
use Rattle.spec_record.specs.Kinds.{kept, of_kind_from}
use Rattle.spec_record.specs.Theorems.{Clash}
use Rattle.spec_record.proofs.PropertyLaws.{property_is_its_parts}
use Rattle.spec_record.proofs.AliasLaws.{target_is_its_name}
use Rattle.spec_record.proofs.KindLaws.{caa_exactly, alias_exactly}
use Rattle.spec_record.proofs.FirstOfOwner.{ClashFree, free_behind, free_first}
use Rattle.spec_rule.specs.Aliases.{Alias, as_alias, aliases_from, aliases_of, followed}
use Rattle.spec_rule.specs.RelevantSet.{CaaRecord, as_caa, caa_records_from, Book, as_book, empty, as_lookup, caa_at, looked_up, lookup}
use Rattle.book_places.proofs.AcceptedBook.{laid_out_book, clash_free, accepted_readable, HoldsData, records_hold}
use Rattle.book_places.specs.declared.Kind.TheVariants.{Caa, CaaOrAlias}
use Rattle.book_places.specs.Table.{tabled, table_of, data_at, is_alias_at}
use Rattle.book_places.specs.Chains.{chains_of}
use Rattle.book_places.specs.Sets.{is_owned_of, is_owned, owned_from, first_of, first_owned, and_then, resolved, resolved_from, looked_up_at, set_at}
use Rattle.book_places.specs.Keys.{key_of}
use Rattle.book_places.specs.Onward.{onward_of}
use Rattle.book_places.specs.Theorems.{numbers_from, numbers_of, first_number, Finds, LookByOffset}
use Rattle.book_places.proofs.TableLaws.{TellsFrom, rows_tell, good_owners}
use Rattle.book_places.proofs.ChainedRecords.{chains_skip_nothing}
use Rattle.book_places.proofs.SetLaws.{set_by_its_first}
use Rattle.book_places.proofs.OnwardLaws.{onward_told}

-- the records of an accepted book have rows, all of them
pub accepted_tabled : (book : List ℕ) → book_refusal book ≡ None → tabled book ≡ records book
unfolding tabled layout_refusal
accepted_tabled book h =
    rw (le-leb (length book) max_book_octets (ltb-false max_book_octets (length book) (short (ltb max_book_octets (length book)) (laid_out_book book h))))
    (accepted_readable book h)
  where
    short : (t : Bool) → cond t (Some BookTooLong) (record_refusal (record_items book)) ≡ None → t ≡ false
    short true e = absurd (none-some _ (sym e))
    short false e = refl

module _ (book table : List ℕ) where
  -- a row tells of the data of the CAA record c
  abbrev pub Holds : CaaRecord → Type 0
  Holds c = property (data_at book table c.number) ≡ Some c.property

  caa_hold : (k : ℕ) (rs : List Record) → TellsFrom book table k rs → All Holds (caa_records_from k rs)
  caa_hold k [] t = all_nil
  caa_hold k (r ∷ rs) t = All-join (one (is_caa r.type r.class) (property r.rdata) refl) (caa_hold (suc k) rs t.1)
    where
      one : (b : Bool) (o : Option Property) → property r.rdata ≡ o → All Holds (cond b (kept (as_caa k r.owner) o) [])
      one true None e = all_nil
      one true (Some q) e = let there : property (data_at book table k) ≡ Some q = rw t.0.rdata e in all_cons there all_nil
      one false o e = all_nil

  module _ (x : Name) (good : GoodName x) where
    abbrev is_of : CaaRecord → Bool
    is_of c = same_name c.owner x

    holds_property : (r : Record) → HoldsData r → is_caa r.type r.class ≡ true → (q : Property) × (property r.rdata ≡ Some q)
    holds_property r h e =
        let (t, c) = (caa_exactly r.type r.class).0 e in
        let (q, whole, long, tag) = h.0 t c in
        (q, (property_is_its_parts r.rdata q).1 (whole, long))

    holds_target : (r : Record) → HoldsData r → is_alias r.type r.class ≡ true → (t : Name) × (r.rdata ≡ wire t) × GoodName t × (target r.rdata ≡ Some t)
    holds_target r h e =
        let (t, c) = (alias_exactly r.type r.class).0 e in
        let (n, whole, valid) = h.1 t c in
        (n, whole, valid, (target_is_its_name r.rdata n).1 (whole, valid))

    owned_numbers :
        (k : ℕ) (rs : List Record) → TellsFrom book table k rs → All (λ r. GoodName r.owner) rs → All HoldsData rs →
        select (is_owned book table (wire x)) (numbers_from k (length rs)) ≡ numbers_of (select is_of (caa_records_from k rs))
    owned_numbers k [] t all_nil all_nil = refl
    owned_numbers k (r ∷ rs) t (all_cons owner-good gs) (all_cons holds hs) =
        rw (t.0.caa, t.0.owner, ← whole_names.1 r.owner x owner-good good)
        (caa (is_caa r.type r.class) refl (property r.rdata) refl (owned_numbers (suc k) rs t.1 gs hs))
      where
        rest : List ℕ
        rest = select (is_owned book table (wire x)) (numbers_from (suc k) (length rs))

        more : List CaaRecord
        more = caa_records_from (suc k) rs

        owner : (b : Bool) (c : CaaRecord) → c.number ≡ k → rest ≡ numbers_of (select is_of more) → cons_if b k rest ≡ numbers_of (cons_if b c (select is_of more))
        owner true c n e = rw (n, e)
        owner false c n e = e

        caa :
            (b : Bool) → is_caa r.type r.class ≡ b → (o : Option Property) → property r.rdata ≡ o → rest ≡ numbers_of (select is_of more) →
            cons_if (b && same_name r.owner x) k rest ≡ numbers_of (select is_of (cond b (kept (as_caa k r.owner) o) [] ++ more))
        caa true f (Some q) g e = owner (same_name r.owner x) (record { number = k; owner = r.owner; property = q }) refl e
        caa true f None g e = let (q, h) = holds_property r holds f in absurd (none-some q (sym g ∙ h))
        caa false f o g e = e

    -- the records of one kind with the owner x: the first of rs is passed, or stands before the others
    module _ {A B : Type 0} (isIt : ℕ → ℕ → Bool) (read : List ℕ → Option A) (made : ℕ → Name → A → B) (ownerOf : B → Name)
        (law : (k : ℕ) (owner : Name) (a : A) → ownerOf (made k owner a) ≡ owner) where
      abbrev having : List B → List B
      having bs = select (λ b. same_name (ownerOf b) x) bs

      passed :
          (k : ℕ) (r : Record) (rs : List Record) → (isIt r.type r.class ≡ false) ⊎ (same_name r.owner x ≡ false) →
          having (of_kind_from isIt read made k (r ∷ rs)) ≡ having (of_kind_from isIt read made (suc k) rs)
      passed k r rs (inl e) = rw e
      passed k r rs (inr e) = go (isIt r.type r.class) (read r.rdata)
        where
          go :
              (t : Bool) (o : Option A) →
              having (cond t (kept (made k r.owner) o) [] ++ of_kind_from isIt read made (suc k) rs) ≡ having (of_kind_from isIt read made (suc k) rs)
          go false o = refl
          go true None = refl
          go true (Some a) = rw (law k r.owner a, e)

      taken :
          (k : ℕ) (r : Record) (rs : List Record) (a : A) → isIt r.type r.class ≡ true → read r.rdata ≡ Some a → same_name r.owner x ≡ true →
          having (of_kind_from isIt read made k (r ∷ rs)) ≡ made k r.owner a ∷ having (of_kind_from isIt read made (suc k) rs)
      taken k r rs a e f g = rw (e, f, law k r.owner a, g)

    -- no alias of x comes after a CAA record of x
    none_later :
        (r : Record) → is_caa r.type r.class ≡ true → same_name r.owner x ≡ true → (k : ℕ) (rs : List Record) → All (λ p. Clash p r → ⊥) rs →
        aliases_of (aliases_from k rs) x ≡ []
    none_later r caa owned k [] all_nil = refl
    none_later r caa owned k (q ∷ rs) (all_cons apart others) =
        passed is_alias target as_alias (λ a. a.owner) (λ k owner t. refl) k q rs
        (⊎_elim (λ e. inr (not_passed (same_name q.owner x) (λ f. apart (same_owner f, inl ((alias_exactly q.type q.class).0 e, (caa_exactly r.type r.class).0 caa))))) inl
        (true_or_false (is_alias q.type q.class)))
        ∙ none_later r caa owned (suc k) rs others
      where
        same_owner : same_name q.owner x ≡ true → map lowered q.owner ≡ map lowered r.owner
        same_owner f = (whole_names.0 q.owner x).0 f ∙ sym ((whole_names.0 r.owner x).0 owned)

    -- what the first CAA record or alias of x says of the records rs, which are numbered from k
    module _ (k : ℕ) (rs : List Record) where
      record ByAlias (i : ℕ) : Type 0 where
        is_alias_lem : is_alias_at table i ≡ true
        alias : Alias
        others : List Alias
        stands : aliases_of (aliases_from k rs) x ≡ alias ∷ others
        numbered : alias.number ≡ i
        leads : data_at book table i ≡ wire alias.target
        target_good : GoodName alias.target

      record ByCaa (i : ℕ) : Type 0 where
        no_alias : is_alias_at table i ≡ false
        none_aliased : aliases_of (aliases_from k rs) x ≡ []
        caa : CaaRecord
        others : List CaaRecord
        stands : caa_at (caa_records_from k rs) x ≡ caa ∷ others
        numbered : caa.number ≡ i

      abbrev HeadTells : Option RecordNo → Type 0
      HeadTells None = (aliases_of (aliases_from k rs) x ≡ []) × (caa_at (caa_records_from k rs) x ≡ [])
      HeadTells (Some r) = ByAlias r.0 ⊎ ByCaa r.0

    -- a record of another owner, or of neither kind, changes nothing
    one_more_lem :
        (k : ℕ) (r : Record) (rs : List Record) → aliases_of (aliases_from k (r ∷ rs)) x ≡ aliases_of (aliases_from (suc k) rs) x →
        caa_at (caa_records_from k (r ∷ rs)) x ≡ caa_at (caa_records_from (suc k) rs) x → (o : Option RecordNo) → HeadTells (suc k) rs o → HeadTells k (r ∷ rs) o
    one_more_lem k r rs e f None (g, h) = (e ∙ g, f ∙ h)
    one_more_lem k r rs e f (Some i) (inl h) = inl (record {
      is_alias_lem = h.is_alias_lem;
      alias = h.alias;
      others = h.others;
      stands = e ∙ h.stands;
      numbered = h.numbered;
      leads = h.leads;
      target_good = h.target_good;
    })
    one_more_lem k r rs e f (Some i) (inr h) = inr (record {
      no_alias = h.no_alias;
      none_aliased = e ∙ h.none_aliased;
      caa = h.caa;
      others = h.others;
      stands = f ∙ h.stands;
      numbered = h.numbered;
    })

    head_tells :
        (k : ℕ) (rs : List Record) → TellsFrom book table k rs → All (λ r. GoodName r.owner) rs → All HoldsData rs → ClashFree rs →
        HeadTells k rs (first_of (select (is_owned_of CaaOrAlias book table (wire x)) (numbers_from k (length rs))))
    head_tells k [] t all_nil all_nil free = (refl, refl)
    head_tells k (r ∷ rs) t (all_cons owner-good gs) (all_cons holds hs) free =
        rw (t.0.caa, t.0.alias, t.0.owner, ← whole_names.1 r.owner x owner-good good)
        (go (is_alias r.type r.class) refl (is_caa r.type r.class) refl (same_name r.owner x) refl
        (head_tells (suc k) rs t.1 gs hs (free_behind r rs free)))
      where
        later : List ℕ
        later = select (is_owned_of CaaOrAlias book table (wire x)) (numbers_from (suc k) (length rs))

        no_aliases : (is_alias r.type r.class ≡ false) ⊎ (same_name r.owner x ≡ false) → aliases_of (aliases_from k (r ∷ rs)) x ≡ aliases_of (aliases_from (suc k) rs) x
        no_aliases = passed is_alias target as_alias (λ a. a.owner) (λ k owner n. refl) k r rs

        no_caa : (is_caa r.type r.class ≡ false) ⊎ (same_name r.owner x ≡ false) → caa_at (caa_records_from k (r ∷ rs)) x ≡ caa_at (caa_records_from (suc k) rs) x
        no_caa = passed is_caa property as_caa (λ c. c.owner) (λ k owner p. refl) k r rs

        go :
            (a : Bool) → is_alias r.type r.class ≡ a → (c : Bool) → is_caa r.type r.class ≡ c → (s : Bool) → same_name r.owner x ≡ s →
            HeadTells (suc k) rs (first_of later) → HeadTells k (r ∷ rs) (first_of (cons_if ((c || a) && s) k later))
        go a e c f false g rest = rw (and-false (c || a)) (one_more_lem k r rs (no_aliases (inr g)) (no_caa (inr g)) (first_of later) rest)
        go false e false f true g rest = one_more_lem k r rs (no_aliases (inl e)) (no_caa (inl f)) (first_of later) rest
        go true e c f true g rest =
            let (n, whole, valid, read) = holds_target r holds e in
            rw (or-true c) (inl (record {
              is_alias_lem = t.0.alias ∙ e;
              alias = as_alias k r.owner n;
              others = aliases_of (aliases_from (suc k) rs) x;
              stands = taken is_alias target as_alias (λ a. a.owner) (λ k owner n. refl) k r rs n e read g;
              numbered = refl;
              leads = t.0.rdata ∙ whole;
              target_good = valid;
            }))
        go false e true f true g rest =
            let (p, read) = holds_property r holds f in
            inr (record {
              no_alias = t.0.alias ∙ e;
              none_aliased = no_aliases (inl e) ∙ none_later r f g (suc k) rs (free_first r rs free [] rs refl);
              caa = as_caa k r.owner p;
              others = caa_at (caa_records_from (suc k) rs) x;
              stands = taken is_caa property as_caa (λ c. c.owner) (λ k owner p. refl) k r rs p f read g;
              numbered = refl;
            })

pub first_numbers : (cs : List CaaRecord) → first_of (numbers_of cs) ≡ first_number cs
first_numbers [] = refl
first_numbers (c ∷ cs) = refl

-- the set that is named by the first of these records
set_named :
    (book table links x : List ℕ) (i : ℕ) (c : CaaRecord) (cs : List CaaRecord) → owned_from book table links x i ≡ numbers_of (c ∷ cs) →
    set_at book table links c.number ≡ numbers_of (c ∷ cs)
set_named book table links x i c cs e = set_by_its_first book table links x i (record { 0 = c.number }) (rw e) ∙ e

-- the first of some numbers in a row is one of them
first_within : (p : ℕ → Bool) (k n : ℕ) (r : RecordNo) → first_of (select p (numbers_from k n)) ≡ Some r → r.0 < k + n
first_within p k zero r e = let z : ◌≡◌ {A = ℕ} 0 1 = cc in absurd (omega arith)
first_within p k (suc n) r e = go (p k) e (first_within p (suc k) n r)
  where
    go :
        (t : Bool) → first_of (cons_if t k (select p (numbers_from (suc k) n))) ≡ Some r →
        (first_of (select p (numbers_from (suc k) n)) ≡ Some r → r.0 < suc k + n) → r.0 < k + suc n
    go true f later = let same : k ≡ r.0 = cc in omega arith
    go false f later = omega (arith, later f)

ended : (n : ℕ) (al : List Alias) (x : Name) → aliases_of al x ≡ [] → followed n al x ≡ Some x
ended zero al x e = rw e
ended (suc n) al x e = rw e

pub found_nothing : (book table links : List ℕ) → Finds book table links empty None
found_nothing book table links = record {
  first = refl;
  alias = λ r e. let z : ◌≡◌ {A = ℕ} 0 1 = cc in absurd (omega arith);
  whole = λ r e f. let z : ◌≡◌ {A = ℕ} 0 1 = cc in absurd (omega arith);
}

module _ (book : List ℕ) (accepted : book_refusal book ≡ None) where
  abbrev pub ruled : Book
  ruled = as_book (records book)

  abbrev pub caas : List CaaRecord
  caas = ruled.caa

  abbrev table : List ℕ
  table = table_of book

  abbrev links : List ℕ
  links = (chains_of book).links

  abbrev heads : List ℕ
  heads = (chains_of book).heads

  pub caas_hold : All (Holds book table) caas
  caas_hold = rw (← accepted_tabled book accepted) (caa_hold book table 0 (tabled book) (rows_tell book))

  held : All HoldsData (tabled book)
  held = rw (accepted_tabled book accepted) (records_hold book)

  -- the CAA records of a name, along its chain
  caa_numbers : (x : Name) → GoodName x → owned_from book table links (wire x) (get_or heads (key_of (wire x)) (length links)) ≡ numbers_of (caa_at caas x)
  caa_numbers x good =
      chains_skip_nothing Caa book (wire x)
      ∙ rw (← accepted_tabled book accepted) (owned_numbers book table x good 0 (tabled book) (rows_tell book) (good_owners book) held)

  module _ (x : Name) (good : GoodName x) where
    abbrev head_of : Option RecordNo
    head_of = first_owned CaaOrAlias book table links heads (wire x)

    head_first : head_of ≡ first_of (select (is_owned_of CaaOrAlias book table (wire x)) (numbers_from 0 (length (tabled book))))
    unfolding first_owned
    head_first = ap first_of (chains_skip_nothing CaaOrAlias book (wire x))

    head_told : HeadTells book table x good 0 (records book) head_of
    head_told =
        rw (head_first, ← accepted_tabled book accepted)
        (head_tells book table x good 0 (tabled book) (rows_tell book) (good_owners book) held
        (rw (accepted_tabled book accepted) (clash_free book accepted)))

    head_within : (r : RecordNo) → head_of ≡ Some r → r.0 < length (tabled book)
    head_within r e = omega (arith, first_within _ 0 (length (tabled book)) r (sym head_first ∙ e))

  abbrev al : List Alias
  al = ruled.aliases

  -- the answer o after at most n aliases from the name y, of which `first` was the first
  abbrev Resolves : ℕ → Name → RecordNo → Option RecordNo → Type 0
  Resolves n y first o =
      ((z : Name) × (followed n al y ≡ Some z) × Finds book table links (as_lookup (caa_at caas z)) o) ⊎ ((followed n al y ≡ None) × (o ≡ Some first))

  -- the name y has CAA records, and r is the first
  by_caa : (n : ℕ) (y : Name) (good : GoodName y) (first r : RecordNo) → ByCaa book table y good 0 (records book) r.0 → Resolves n y first (Some r)
  by_caa n y good first r h = inl (
    y,
    ended n al y h.none_aliased,
    rw h.stands (record {
      first = ap (λ k. Some (record { 0 = k })) (sym h.numbered);
      alias = λ q e. let same : r.0 ≡ q.0 = cc in rw (← same) h.no_alias;
      whole = λ q e f. let same : r.0 ≡ q.0 = cc in
          rw (← same, ← h.numbered) (set_named book table links (wire y) _ h.caa h.others (caa_numbers y good ∙ rw h.stands));
    }),
  )

  abbrev Resolved : ℕ → Type 0
  Resolved n = (y : Name) (good : GoodName y) (first r : RecordNo) → head_of y good ≡ Some r → Resolves n y first (resolved n table links (onward_of book) first r)

  resolves : (n : ℕ) → Resolved n
  resolves zero y good first r e = ⊎_elim
      (λ h. rw h.is_alias_lem (inr (rw h.stands refl, refl)))
      (λ h. rw h.no_alias (by_caa zero y good first r h))
      (rw e at (head_told y good))
  resolves (suc n) y good first r e = ⊎_elim
      (aliased (resolves n))
      (λ h. rw h.no_alias (by_caa (suc n) y good first r h))
      (rw e at (head_told y good))
    where
      further :
          Resolved n → (t : Name) (valid : GoodName t) (o : Option RecordNo) → head_of t valid ≡ o →
          Resolves n t first (and_then o (resolved n table links (onward_of book) first))
      further rest t valid None f =
          let (none_aliased, no_caa) = rw f at (head_told t valid) in
          inl (t, ended n al t none_aliased, rw no_caa (found_nothing book table links))
      further rest t valid (Some q) f = rest t valid first q f

      aliased : Resolved n → ByAlias book table y good 0 (records book) r.0 → Resolves (suc n) y first (resolved (suc n) table links (onward_of book) first r)
      aliased rest h =
          rw (
            h.is_alias_lem,
            h.stands,
            onward_told book r.0 (head_within y good r e) h.is_alias_lem,
            h.leads,
          )
          (further rest h.alias.target h.target_good (head_of h.alias.target h.target_good) refl)

  pub look_finds :
      (x : Name) → GoodName x → Finds book table links (lookup ruled x) (looked_up_at book table links heads (onward_of book) (wire x))
  unfolding lookup looked_up_at resolved_from
  look_finds x good = go (head_of x good) refl
    where
      go :
          (o : Option RecordNo) → head_of x good ≡ o →
          Finds book table links (looked_up caas (aliases_of al x) (followed max_aliases al x)) (and_then o (λ r. resolved max_aliases table links (onward_of book) r r))
      go None e =
          let (none_aliased, no_caa) = rw e at (head_told x good) in
          rw (ended max_aliases al x none_aliased, no_caa) (found_nothing book table links)
      go (Some r) e = ⊎_elim
          (λ (z, f, finds). rw f finds)
          (λ (f, o). endless_found r e f o (rw e at (head_told x good)))
          (resolves max_aliases x good r r e)
        where
          endless_found :
              (r : RecordNo) → head_of x good ≡ Some r → followed max_aliases al x ≡ None → resolved max_aliases table links (onward_of book) r r ≡ Some r →
              ByAlias book table x good 0 (records book) r.0 ⊎ ByCaa book table x good 0 (records book) r.0 →
              Finds book table links (looked_up caas (aliases_of al x) (followed max_aliases al x)) (resolved max_aliases table links (onward_of book) r r)
          endless_found r e f o (inl h) = rw (f, o, h.stands, h.numbered) (record {
            first = refl;
            alias = λ q g. let same : r.0 ≡ q.0 = cc in rw (← same) h.is_alias_lem;
            whole = λ q g k. absurd (true≢false k);
          })
          endless_found r e f o (inr h) = absurd (none-some x (sym f ∙ ended max_aliases al x h.none_aliased))

pub look_by_offset : LookByOffset
look_by_offset book x accepted good = look_finds book accepted x good
