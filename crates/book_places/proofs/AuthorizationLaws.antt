-- What CAA says of a name by a set that was found means what the rule says of it.
use Rattle.std.specs.Prelude.{Option, None, Some}
use Prim.Native.Nat.{ℕ}
use native.Mathlib.Omega.{arith}
use mathlib.Core.Path.{◌≡◌, refl, ap, ◌∙◌}
use mathlib.Core.Bool.{Bool, true, false, ◌||◌}
use mathlib.Core.List.{List, [], ◌∷◌}
use Rattle.spec_refusal.specs.declared.RecordNo.{RecordNo}
use Rattle.spec_octets.specs.Lists.{any, cons_if, select, All, all_nil, all_cons}
use Rattle.spec_octets.specs.Octets.{same, lowered}
use Rattle.spec_octets.proofs.SelectLaws.{selected}
use Rattle.spec_octets.proofs.SelectedLists.{selects_all}
use Rattle.spec_record.specs.declared.PropertyTag.{PropertyTag}
use Rattle.spec_record.specs.declared.PropertyTag.TheVariants.{Issue, IssueWild}
use Rattle.spec_record.specs.Property.{property}
use Rattle.spec_applicant.specs.Applicant.{Applicant}
use Rattle.spec_rule.specs.RelevantSet.{CaaRecord, Lookup, empty, found, endless, lookup, relevant_set}
use Rattle.spec_rule.specs.Authorizations.{Authorization, unrestricted, granted, unresolved, is_unknown_critical, is_issue, is_issue_wild, is_grantee, cons_some, or_else, governing, grantees, governed_by as ruleGovernedBy, unless_forbidden, authorization_from}
use Rattle.read_grantee.specs.Places.{grantee_of_data}
use Rattle.read_grantee.proofs.Grantees.{grantee_of_data_lem}
use Rattle.book_places.specs.declared.NameAuthorization.{NameAuthorization}
use Rattle.book_places.specs.declared.NameAuthorization.TheVariants.{Unrestricted}
use Rattle.book_places.specs.Table.{table_of, data_at, is_alias_at}
use Rattle.book_places.specs.Chains.{chains_of}
use Rattle.book_places.specs.Sets.{set_at, data_has_tag, data_is_unknown_critical, data_grants, in_set, first_unknown_critical, first_tagged, set_grants}
use Rattle.book_places.specs.NameAuthorizations.{governed_by, by_issue, by_tags, unless_critical, set_authorization, by_set, name_authorization, grantees_at, set_grantees, meaning}
use Rattle.book_places.specs.Theorems.{records_in, numbers_of, first_number, Finds, AuthorizationByOffset, LookAuthorizationByOffset, SetGrants}
use Rattle.book_places.proofs.LookLaws.{Holds, first_numbers, ruled, caas_hold, look_by_offset}
use Rattle.book_places.proofs.ClimbLaws.{climb_by_offset, looked_have, relevant_have}

-- the test q says of data what p says of a record that holds it
abbrev Tells : (List ℕ → Bool) → (CaaRecord → Bool) → Type 0
Tells q p = (d : List ℕ) (c : CaaRecord) → property d ≡ Some c.property → q d ≡ p c

tells_critical : Tells data_is_unknown_critical is_unknown_critical
unfolding data_is_unknown_critical is_unknown_critical
tells_critical d c e = rw e

tells_issue : Tells (data_has_tag Issue) is_issue
unfolding data_has_tag
tells_issue d c e = rw e

tells_issuewild : Tells (data_has_tag IssueWild) is_issue_wild
unfolding data_has_tag
tells_issuewild d c e = rw e

module _ (who : Applicant) (book table links : List ℕ) where
  -- the records that pass, by their numbers and by the rule
  select_numbers :
      (q : List ℕ → Bool) (p : CaaRecord → Bool) → Tells q p → (cs : List CaaRecord) → All (Holds book table) cs →
      select (λ i. q (data_at book table i)) (numbers_of cs) ≡ numbers_of (select p cs)
  select_numbers q p tells [] all_nil = refl
  select_numbers q p tells (c ∷ cs) (all_cons h hs) =
      rw (tells (data_at book table c.number) c h, select_numbers q p tells cs hs) (kept (p c))
    where
      kept : (t : Bool) → cons_if t c.number (numbers_of (select p cs)) ≡ numbers_of (cons_if t c (select p cs))
      kept true = refl
      kept false = refl

  grantees_told : (cs : List CaaRecord) → All (Holds book table) cs → grantees_at who book table links (numbers_of cs) ≡ grantees who cs
  grantees_told [] all_nil = refl
  grantees_told (c ∷ cs) (all_cons h hs) = rw ((grantee_of_data_lem who (data_at book table c.number)).0 c h, grantees_told cs hs)

  -- the set cs that is named by its first record
  module _ (first : RecordNo) (cs : List CaaRecord) (set : set_at book table links first.0 ≡ numbers_of cs) (all : All (Holds book table) cs)
      (no_alias : is_alias_at table first.0 ≡ false) where
    in_set_lem : (q : List ℕ → Bool) (p : CaaRecord → Bool) → Tells q p → in_set q book table links first.0 ≡ numbers_of (select p cs)
    in_set_lem q p tells = rw set (select_numbers q p tells cs all)

    selected_hold : (p : CaaRecord → Bool) → All (Holds book table) (select p cs)
    selected_hold p = selects_all (selected p (λ c. (λ e. e, λ e. e)) cs) all

    module _ (tag : PropertyTag) (p : CaaRecord → Bool) (tells : Tells (data_has_tag tag) p) where
      first_tagged_lem : first_tagged tag book table links first.0 ≡ first_number (select p cs)
      unfolding first_tagged
      first_tagged_lem = rw (in_set_lem (data_has_tag tag) p tells) (first_numbers (select p cs))

      tag_grantees : set_grantees who book table links tag first.0 ≡ grantees who (select p cs)
      unfolding set_grantees
      tag_grantees = rw (in_set_lem (data_has_tag tag) p tells) (grantees_told (select p cs) (selected_hold p))

    first_critical : first_unknown_critical book table links first.0 ≡ first_number (select is_unknown_critical cs)
    unfolding first_unknown_critical
    first_critical = rw (in_set_lem data_is_unknown_critical is_unknown_critical tells_critical) (first_numbers (select is_unknown_critical cs))

    -- records with the tag govern if there are any
    governs :
        (tag : PropertyTag) (gs others : List CaaRecord) (otherwise : NameAuthorization) → set_grantees who book table links tag first.0 ≡ grantees who gs →
        meaning who book table links otherwise ≡ ruleGovernedBy who others →
        meaning who book table links (governed_by book table links first tag (first_number gs) otherwise) ≡ ruleGovernedBy who (or_else gs others)
    governs tag [] others otherwise e f = f
    governs tag (g ∷ gs) others otherwise e f = ap (granted g.number) e

    or_nothing : (gs : List CaaRecord) → or_else gs [] ≡ gs
    or_nothing [] = refl
    or_nothing (g ∷ gs) = refl

    by_issue_lem : meaning who book table links (by_issue book table links first) ≡ ruleGovernedBy who (select is_issue cs)
    by_issue_lem =
        rw (first_tagged_lem Issue is_issue tells_issue)
        (governs Issue (select is_issue cs) [] Unrestricted (tag_grantees Issue is_issue tells_issue) refl ∙ ap (ruleGovernedBy who) (or_nothing (select is_issue cs)))

    by_tags_lem : (wildcard : Bool) → meaning who book table links (by_tags book table links wildcard first) ≡ ruleGovernedBy who (governing wildcard cs)
    unfolding governing
    by_tags_lem false = by_issue_lem
    by_tags_lem true =
        rw (first_tagged_lem IssueWild is_issue_wild tells_issuewild)
        (governs IssueWild (select is_issue_wild cs) (select is_issue cs) (by_issue book table links first) (tag_grantees IssueWild is_issue_wild tells_issuewild) by_issue_lem)

    unless_critical_lem :
        (us : List CaaRecord) (n : NameAuthorization) (a : Authorization) → meaning who book table links n ≡ a →
        meaning who book table links (unless_critical book table links (first_number us) n) ≡ unless_forbidden us a
    unless_critical_lem [] n a e = e
    unless_critical_lem (u ∷ us) n a e = refl

    by_set_lem : (wildcard : Bool) → meaning who book table links (by_set book table links wildcard (Some first)) ≡ authorization_from who wildcard (found cs)
    unfolding set_authorization
    by_set_lem wildcard = rw (no_alias, first_critical) (unless_critical_lem (select is_unknown_critical cs) _ _ (by_tags_lem wildcard))

  nothing_governs : (wildcard : Bool) → unrestricted ≡ authorization_from who wildcard (found [])
  unfolding governing
  nothing_governs true = refl
  nothing_governs false = refl

  found_means :
      (wildcard : Bool) (l : Lookup) (o : Option RecordNo) → Finds book table links l o → All (Holds book table) (records_in l) →
      meaning who book table links (by_set book table links wildcard o) ≡ authorization_from who wildcard l
  unfolding set_authorization
  found_means wildcard empty None f all = refl
  found_means wildcard empty (Some r) f all = let e = f.first in let z : ◌≡◌ {A = ℕ} 0 1 = cc in absurd (omega arith)
  found_means wildcard (found []) None f all = nothing_governs wildcard
  found_means wildcard (found (c ∷ cs)) None f all = let e = f.first in let z : ◌≡◌ {A = ℕ} 0 1 = cc in absurd (omega arith)
  found_means wildcard (found cs) (Some r) f all = by_set_lem r cs (f.whole r refl refl) all (f.alias r refl) wildcard
  found_means wildcard (endless q) None f all = let e = f.first in let z : ◌≡◌ {A = ℕ} 0 1 = cc in absurd (omega arith)
  found_means wildcard (endless q) (Some r) f all = unresolved_by r q (f.alias r refl) f.first
    where
      unresolved_by :
          (r : RecordNo) (q : ℕ) → is_alias_at table r.0 ≡ true → Some r ≡ Some (record { 0 = q }) →
          meaning who book table links (set_authorization book table links wildcard r) ≡ unresolved q
      unresolved_by r q e f = let same : r.0 ≡ q = cc in rw (e, same)

  -- whom records grant, one by one and together
  any_grantees :
      (d is : List ℕ) → any (λ i. is_grantee d (grantee_of_data who (data_at book table i))) is ≡ any (same d) (grantees_at who book table links is)
  any_grantees d [] = refl
  any_grantees d (i ∷ is) = one (grantee_of_data who (data_at book table i)) (any_grantees d is)
    where
      one :
          (o : Option (List ℕ)) → any (λ i. is_grantee d (grantee_of_data who (data_at book table i))) is ≡ any (same d) (grantees_at who book table links is) →
          is_grantee d o || any (λ i. is_grantee d (grantee_of_data who (data_at book table i))) is ≡ any (same d) (cons_some o (grantees_at who book table links is))
      one None e = e
      one (Some n) e = ap (◌||◌ (same d n)) e

pub authorization_by_offset : AuthorizationByOffset
unfolding name_authorization
authorization_by_offset who book x wildcard accepted good =
    found_means who book (table_of book) (chains_of book).links wildcard (relevant_set (ruled book accepted) x) _ (climb_by_offset book x accepted good)
    (relevant_have (Holds book (table_of book)) (ruled book accepted) (caas_hold book accepted) x)

pub look_authorization_by_offset : LookAuthorizationByOffset
look_authorization_by_offset who book x wildcard accepted good =
    found_means who book (table_of book) (chains_of book).links wildcard (lookup (ruled book accepted) x) _ (look_by_offset book x accepted good)
    (looked_have (Holds book (table_of book)) (ruled book accepted) (caas_hold book accepted) x (lookup (ruled book accepted) x) refl)

pub set_grants_lem : SetGrants
unfolding set_grants set_grantees data_grants
set_grants_lem who book table links issuer tag first = any_grantees who book table links (lowered issuer) (in_set (data_has_tag tag) book table links first)
