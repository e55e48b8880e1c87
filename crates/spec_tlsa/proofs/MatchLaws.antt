-- The match by the rule: the first record of the owner that matches, else whether one of them is usable.
use Prim.Native.Nat.{ℕ}
use native.Mathlib.Omega.{arith}
use mathlib.Core.Path.{◌≡◌, refl, ap}
use mathlib.Core.Logic.Iff
use mathlib.Core.Logic.{◌↔◌, ◌≢◌, ◌⊎◌, inl, inr}
use mathlib.Core.Bool.{Bool, true, false, cond, not, ◌&&◌, and-eq-true_iff, true≢false}
use mathlib.Core.List.{List, [], ◌∷◌}
use lib.Dec.{leb, eqb}
use borrow.Author.Tests.{leb-true, le-leb, eqb-true, eqb-false, eq-eqb}
use Rattle.spec_refusal.specs.declared.Refusal.{Refusal}
use Rattle.spec_octets.specs.Lists.{select, is_empty, All, all_nil, all_cons, Any, any_here, any_there, Selects, selects_take, selects_pass, First}
use Rattle.spec_octets.specs.Octets.{same}
use Rattle.spec_octets.proofs.ListLaws.{All-imp}
use Rattle.spec_octets.proofs.Texts.{same_equal}
use Rattle.spec_octets.proofs.SelectLaws.{selects_none, selects_first, first_selects, selected}
use Rattle.spec_octets.proofs.SelectTests.{select_twice, any_selected}
use Rattle.spec_name.specs.Names.{same_name}
use Rattle.spec_name.proofs.WholeNames.{whole_names}
use Rattle.spec_tlsa.specs.declared.Matching.{Matching}
use Rattle.spec_tlsa.specs.declared.Matching.TheVariants.{Match, NoMatch, NothingUsable, Refused}
use Rattle.spec_tlsa.specs.Association.{Association, is_usage, is_selector, is_matching_type}
use Rattle.spec_tlsa.specs.Matches.{TlsaRecord, tlsa_at, Presented, is_usable, selected as selectedOctets, is_match, first_match, matching}
use Rattle.spec_tlsa.specs.Meaning.{OwnedBy, Usable, Matches}
use Rattle.spec_tlsa.specs.Theorems.{MatchByTheRule}

usable_exactly : (a : Association) → (is_usable a ≡ true) ↔ Usable a
unfolding is_usable is_usage is_selector is_matching_type
usable_exactly a = (
  λ e.
      let (front, m) = (and-eq-true_iff (leb a.usage 3 && leb a.selector 1) (eqb a.matching 0)).0 e in
      let (u, s) = (and-eq-true_iff (leb a.usage 3) (leb a.selector 1)).0 front in
      (leb-true a.usage 3 u, leb-true a.selector 1 s, eqb-true a.matching 0 m),
  λ (u, s, m). rw (le-leb a.usage 3 u, le-leb a.selector 1 s, eq-eqb a.matching 0 m),
)

pub match_exactly : (c : Presented) (a : Association) → (is_match c a ≡ true) ↔ Matches c a
unfolding is_match
match_exactly c a = (
  λ e.
      let (front, equal) = (and-eq-true_iff (is_usable a && eqb a.usage c.usage) (same a.octets (selectedOctets c a.selector))).0 e in
      let (usable, usage) = (and-eq-true_iff (is_usable a) (eqb a.usage c.usage)).0 front in
      let fields = (usable_exactly a).0 usable in
      let whole = (same_equal a.octets (selectedOctets c a.selector)).0 equal in
      (fields, eqb-true a.usage c.usage usage, by (eqb a.selector 0) refl fields whole),
  λ (fields, usage, octets).
      rw ((usable_exactly a).1 fields, eq-eqb a.usage c.usage usage) ((same_equal a.octets (selectedOctets c a.selector)).1 (back octets)),
)
  where
    OctetsMatch : Type 0
    OctetsMatch = ((a.selector ≡ 0) × (a.octets ≡ c.certificate)) ⊎ ((a.selector ≡ 1) × (a.octets ≡ c.key))

    by : (t : Bool) → eqb a.selector 0 ≡ t → Usable a → a.octets ≡ cond t c.certificate c.key → OctetsMatch
    by true t fields whole = inl (eqb-true a.selector 0 t, whole)
    by false t fields whole = let other = eqb-false a.selector 0 t in inr (omega (arith, fields.1), whole)

    back : OctetsMatch → a.octets ≡ selectedOctets c a.selector
    back (inl (zero, whole)) = rw zero whole
    back (inr (one, whole)) = rw one whole

module _ {A : Type 0} {P : A → Type 0} where
  some_selected : {xs : List A} {y : A} {ys : List A} → Selects P xs (y ∷ ys) → Any P xs
  some_selected (selects_take h s) = any_here h
  some_selected (selects_pass n s) = any_there (some_selected s)

  none_of : {xs : List A} → All (λ x. P x → ⊥) xs → Any P xs → ⊥
  none_of all_nil x3 = elim x3 [ ]
  none_of (all_cons n ns) (any_here h) = n h
  none_of (all_cons n ns) (any_there h) = none_of ns h

pub never_refused : (ms : List TlsaRecord) (t : Bool) (r : Refusal) → first_match ms t ≢ Refused r
never_refused [] true r e = true≢false (cc)
never_refused [] false r e = true≢false (cc)
never_refused (q ∷ ms) t r e = true≢false (cc)

abbrev number_of : Matching → ℕ
number_of (Match r) = r.0
number_of NoMatch = 0
number_of NothingUsable = 0
number_of (Refused r) = 0

-- the records that match, and those that are usable
module _ {M U : TlsaRecord → Type 0} (usable : (r : TlsaRecord) → M r → U r) (rs : List TlsaRecord) where
  abbrev Answers : Matching → Type 0
  Answers m =
      ((k : ℕ) → (m ≡ Match (record { 0 = k })) ↔ ((r : TlsaRecord) × First M rs r × (r.number ≡ k)))
      × ((m ≡ NoMatch) ↔ (Any U rs × All (λ q. M q → ⊥) rs)) × ((m ≡ NothingUsable) ↔ All (λ q. U q → ⊥) rs)
      × ((r : Refusal) → m ≢ Refused r)

  no_first : (ms : List TlsaRecord) → Selects M rs ms → ms ≡ [] → (r : TlsaRecord) → First M rs r → ⊥
  no_first ms s e r first = let (zs, f) = first_selects s first in true≢false (cc)

  answers : (ms us : List TlsaRecord) → Selects M rs ms → Selects U rs us → Answers (first_match ms (not (is_empty us)))
  answers [] [] s t = (
    λ k. (λ e. absurd (true≢false (cc)), λ (r, first, n). absurd (no_first [] s refl r first)),
    (λ e. absurd (true≢false (cc)), λ h. absurd (none_of ((selects_none t).0 refl) h.0)),
    (λ e. (selects_none t).0 refl, λ h. refl),
    never_refused [] false,
  )
  answers [] (u ∷ us) s t = (
    λ k. (λ e. absurd (true≢false (cc)), λ (r, first, n). absurd (no_first [] s refl r first)),
    (λ e. (some_selected t, (selects_none s).0 refl), λ h. refl),
    (λ e. absurd (true≢false (cc)), λ h. absurd (none_of h (some_selected t))),
    never_refused [] true,
  )
  answers (m ∷ ms) us s t = (
    λ k. (
      λ e. (m, selects_first s refl, ap number_of e),
      λ (r, first, n). let (zs, f) = first_selects s first in let same : m ≡ r = cc in rw (same, n),
    ),
    (λ e. absurd (true≢false (cc)), λ h. absurd (none_of h.1 (some_selected s))),
    (λ e. absurd (true≢false (cc)), λ h. absurd (none_of (All-imp (λ r n g. n (usable r g)) h) (some_selected s))),
    never_refused (m ∷ ms) (not (is_empty us)),
  )

pub match_by_the_rule : MatchByTheRule
unfolding matching
match_by_the_rule c x rs =
    rw (any_selected is_usable_record (tlsa_at rs x), select_twice is_owned is_matching rs, select_twice is_owned is_usable_record rs)
    (answers
    (λ r (own, fits). (own, fits.0))
    rs
    (select (λ r. is_owned r && is_matching r) rs)
    (select (λ r. is_owned r && is_usable_record r) rs)
    (selected (λ r. is_owned r && is_matching r) (λ r. both r (match_exactly c r.association)) rs)
    (selected (λ r. is_owned r && is_usable_record r) (λ r. both r (usable_exactly r.association)) rs))
  where
    is_owned : TlsaRecord → Bool
    is_owned r = same_name r.owner x

    is_matching : TlsaRecord → Bool
    is_matching r = is_match c r.association

    is_usable_record : TlsaRecord → Bool
    is_usable_record r = is_usable r.association

    both : (r : TlsaRecord) {t : Bool} {P : Type 0} → (t ≡ true) ↔ P → (is_owned r && t ≡ true) ↔ (OwnedBy x r × P)
    both r {t} h = Iff.trans (and-eq-true_iff (is_owned r) t) (Iff.and (whole_names.0 r.owner x) h)
