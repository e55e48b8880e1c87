-- Which records the search uses, and what one lookup finds.
use Rattle.std.proofs.lemmas.Option.{none-some, same_Some}
use Rattle.std.specs.Prelude.{Option, None, Some}
use Prim.Native.Nat.{ℕ, suc}
use native.Mathlib.Omega.{arith}
use mathlib.Core.Path.{◌≡◌, refl, sym, ap, ◌∙◌}
use mathlib.Core.Logic.Iff
use mathlib.Core.Logic.{◌↔◌, ◌≢◌, ◌⊎◌, inl, inr}
use mathlib.Core.Bool.{true, false, true≢false}
use mathlib.Core.List.{List, [], ◌∷◌, cons≢nil}
use Rattle.spec_limits.specs.Limits.{max_aliases}
use Rattle.spec_octets.specs.Lists.{All, all_nil, all_cons, First, Selects}
use Rattle.spec_octets.proofs.ListLaws.{true_or_false, All-imp}
use Rattle.spec_octets.proofs.SelectLaws.{selects_none, selected, selects_exactly}
use Rattle.spec_name.specs.Names.{Name, wire, GoodName}
use Rattle.spec_name.proofs.WholeNames.{whole_names}
use Rattle.spec_record.specs.Records.{Record, is_caa, is_alias, target, GoodRecord}
use Rattle.spec_record.proofs.PropertyLaws.{property_is_its_parts}
use Rattle.spec_record.proofs.AliasLaws.{target_is_its_name}
use Rattle.spec_record.proofs.KindLaws.{caa_exactly, alias_exactly, kind_records}
use Rattle.spec_rule.specs.Aliases.{Alias, as_alias, aliases_of, followed}
use Rattle.spec_rule.specs.RelevantSet.{CaaRecord, Book, empty, found, endless, as_lookup, caa_at, looked_up, lookup, caa_records_from}
use Rattle.spec_rule.specs.Meaning.{CaaRecordsOf, at_end, is_caa_record, is_other, OwnedBy, AliasOf, Leads, arrived, onward, EndsAt}
use Rattle.spec_rule.specs.Theorems.{CaaRecords, AliasRecords, ALookup, LookupWithoutAliases}
use Rattle.spec_rule.proofs.Following.{first_alias, the_first, has_alias, followed_ends, followed_endless}

caa_from : (k : ℕ) (rs : List Record) → All GoodRecord rs → CaaRecordsOf k rs (caa_records_from k rs)
caa_from k [] all_nil = at_end
caa_from k (r ∷ rs) (all_cons good goods) = go (true_or_false (is_caa r.type r.class)) (caa_from (suc k) rs goods)
  where
    go :
        (is_caa r.type r.class ≡ true) ⊎ (is_caa r.type r.class ≡ false) →
        CaaRecordsOf (suc k) rs (caa_records_from (suc k) rs) → CaaRecordsOf k (r ∷ rs) (caa_records_from k (r ∷ rs))
    go (inl e) rest =
        let (t, c) = (caa_exactly r.type r.class).0 e in
        let (p, d, l, tag) = good.5.0 t c in
        rw (e, (property_is_its_parts r.rdata p).1 (d, l)) (is_caa_record p t c d l rest)
    go (inr e) rest = rw e (is_other (λ both. true≢false (rw ((caa_exactly r.type r.class).1 both) at e)) rest)

pub caa_records_lem : CaaRecords
caa_records_lem = caa_from 0

pub alias_records : AliasRecords
alias_records rs good = kind_records Name Alias 5 1 is_alias target (λ d t. (d ≡ wire t) × GoodName t) as_alias alias_exactly target_is_its_name 0 rs (All-imp (λ r g t c. let (n, whole, valid) = g.5.1 t c in (n, (whole, valid))) good)

empty≢endless : {r : ℕ} → empty ≡ endless r → ⊥
empty≢endless e = true≢false (cc)

found≢endless : {rs : List CaaRecord} {r : ℕ} → found rs ≡ endless r → ⊥
found≢endless e = true≢false (cc)

one_number : {q r : ℕ} → endless q ≡ endless r → q ≡ r
one_number e = cc

-- something is found exactly where there is any record
lookup_empty : (rs : List CaaRecord) → (as_lookup rs ≡ empty) ↔ (rs ≡ [])
lookup_empty [] = (λ e. refl, λ e. refl)
lookup_empty (r ∷ rs) = (λ e. cc, λ e. absurd (cons≢nil e))

lookup_found : (qs rs : List CaaRecord) → (as_lookup qs ≡ found rs) ↔ ((qs ≡ rs) × (rs ≢ []))
lookup_found [] rs = (λ e. absurd (true≢false (cc)), λ k. absurd (k.1 (cc)))
lookup_found (q ∷ qs) rs = (λ e. (cc, λ z. true≢false (cc)), λ k. rw k.0)

module _ (rs : List CaaRecord) (y : Name) where
  caa_selects : Selects (OwnedBy y) rs (caa_at rs y)
  caa_selects = selected _ (λ r. whole_names.0 r.owner y) rs

  at_empty : (as_lookup (caa_at rs y) ≡ empty) ↔ All (λ r. OwnedBy y r → ⊥) rs
  at_empty = Iff.trans (lookup_empty _) (selects_none caa_selects)

  at_found : (qs : List CaaRecord) → (as_lookup (caa_at rs y) ≡ found qs) ↔ (Selects (OwnedBy y) rs qs × (qs ≢ []))
  at_found qs = Iff.trans (lookup_found _ qs) (Iff.and (selects_exactly _ (λ r. whole_names.0 r.owner y) rs qs) Iff.rfl)

  at_never_endless : (r : ℕ) → as_lookup (caa_at rs y) ≢ endless r
  at_never_endless r = go (caa_at rs y)
    where
      go : (qs : List CaaRecord) → as_lookup qs ≢ endless r
      go [] e = true≢false (cc)
      go (q ∷ qs) e = true≢false (cc)

module _ (book : Book) (x : Name) where
  -- following ends at y: what stands there decides
  module _ (y : Name) (e : followed max_aliases book.aliases x ≡ Some y) where
    ends : EndsAt book.aliases x y
    ends = (followed_ends book.aliases max_aliases x y).0 e

    only_end : (z : Name) → EndsAt book.aliases x z → z ≡ y
    only_end z h = same_Some z y (sym ((followed_ends book.aliases max_aliases x z).1 h) ∙ e)

    at_end_lookup : lookup book x ≡ as_lookup (caa_at book.caa y)
    unfolding lookup
    at_end_lookup = rw e

  not_endless : (y : Name) → followed max_aliases book.aliases x ≡ Some y → ((z : Name) × Leads book.aliases (suc max_aliases) x z) → ⊥
  not_endless y e h = none-some y (sym ((followed_endless book.aliases max_aliases x).1 h) ∙ e)

  -- following does not end: the first alias is reported
  module _ (e : followed max_aliases book.aliases x ≡ None) where
    never_ends : (z : Name) → EndsAt book.aliases x z → ⊥
    never_ends z h = none-some z (sym e ∙ (followed_ends book.aliases max_aliases x z).1 h)

    endless_lookup : (a : Alias) × (bs : List Alias) × (aliases_of book.aliases x ≡ a ∷ bs) × (lookup book x ≡ endless a.number)
    unfolding lookup
    endless_lookup = go (aliases_of book.aliases x) refl ((followed_endless book.aliases max_aliases x).0 e)
      where
        go :
            (cs : List Alias) → aliases_of book.aliases x ≡ cs → (z : Name) × Leads book.aliases (suc max_aliases) x z →
            (a : Alias) × (bs : List Alias) × (aliases_of book.aliases x ≡ a ∷ bs)
            × (looked_up book.caa (aliases_of book.aliases x) (followed max_aliases book.aliases x) ≡ endless a.number)
        go [] i (z, onward f l) = absurd (has_alias book.aliases x i f)
        go (a ∷ cs) i l = (a, cs, i, rw (e, i) refl)

pub a_lookup : ALookup
a_lookup book x = go (followed max_aliases book.aliases x) refl
  where
    go : (o : Option Name) → followed max_aliases book.aliases x ≡ o →
        ((lookup book x ≡ empty) ↔ ((y : Name) × EndsAt book.aliases x y × All (λ r. OwnedBy y r → ⊥) book.caa))
        × ((rs : List CaaRecord) → (lookup book x ≡ found rs) ↔ ((y : Name) × EndsAt book.aliases x y × Selects (OwnedBy y) book.caa rs × (rs ≢ [])))
        × ((r : ℕ) → (lookup book x ≡ endless r)
        ↔ ((y : Name) × Leads book.aliases (suc max_aliases) x y × ((a : Alias) × First (AliasOf x) book.aliases a × (a.number ≡ r))))
    go (Some y) e = (
      (λ h. (y, ends book x y e, (at_empty book.caa y).0 (sym is ∙ h)), λ (z, end, h). is ∙ (at_empty book.caa y).1 (rw (only_end book x y e z end) at h)),
      λ rs. (
        λ h. let (selects, some-set) = (at_found book.caa y rs).0 (sym is ∙ h) in (y, ends book x y e, selects, some-set),
        λ (z, end, h, some-set). is ∙ (at_found book.caa y rs).1 (rw (only_end book x y e z end) at h, some-set),
      ),
      λ r. (λ h. absurd (at_never_endless book.caa y r (sym is ∙ h)), λ (z, l, first). absurd (not_endless book x y e (z, l))),
    )
      where
        is : lookup book x ≡ as_lookup (caa_at book.caa y)
        is = at_end_lookup book x y e
    go None e =
        let (a, bs, i, is) = endless_lookup book x e in (
          (λ h. absurd (empty≢endless (sym h ∙ is)), λ (z, end, h). absurd (never_ends book x e z end)),
          λ rs. (λ h. absurd (found≢endless (sym h ∙ is)), λ (z, end, h, some-set). absurd (never_ends book x e z end)),
          λ r. (
            λ h. let (z, l) = (followed_endless book.aliases max_aliases x).0 e in (z, l, (a, first_alias book.aliases x i, one_number (sym is ∙ h))),
            λ (z, l, (b, f, k)). is ∙ ap endless (sym (ap (λ (c : Alias). c.number) (the_first book.aliases x i f)) ∙ k),
          ),
        )

pub lookup_without_aliases : LookupWithoutAliases
lookup_without_aliases book x e = (
  rw is (at_empty book.caa x),
  λ rs. rw is (at_found book.caa x rs),
  λ r h. at_never_endless book.caa x r (sym is ∙ h),
)
  where
    none_followed : followed max_aliases book.aliases x ≡ Some x
    none_followed = (followed_ends book.aliases max_aliases x x).1 (0, omega arith, arrived, rw e all_nil)

    is : lookup book x ≡ as_lookup (caa_at book.caa x)
    is = at_end_lookup book x x none_followed
