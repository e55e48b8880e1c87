-- The records that an answer names have links; what governs are issue or issuewild records.
use Rattle.std.specs.Prelude.{Option, Some, None}
use Prim.Native.Nat.{ℕ, zero, suc, ◌<◌}
use mathlib.Core.Path.{◌≡◌, refl}
use mathlib.Core.Logic.{◌⊎◌, inl, inr}
use mathlib.Core.Bool.{Bool, true, false, cond}
use mathlib.Core.List.{List, [], ◌∷◌}
use lib.Dec.{ltb, eqb}
use lib.ListN.{length, drop, get_or}
use borrow.Author.Tests.{ltb-true}
use Rattle.spec_limits.specs.Limits.{max_aliases}
use Rattle.spec_refusal.specs.declared.RecordNo.{RecordNo}
use Rattle.spec_octets.specs.Lists.{select, All, all_nil, all_cons}
use Rattle.spec_octets.proofs.SelectLaws.{selected}
use Rattle.spec_octets.proofs.SelectedLists.{selects_all}
use Rattle.read_name.specs.Places.{parent_place}
use Rattle.spec_record.specs.declared.PropertyTag.{PropertyTag}
use Rattle.spec_record.specs.declared.PropertyTag.TheVariants.{Issue, IssueWild}
use Rattle.book_places.specs.declared.Kind.{Kind}
use Rattle.book_places.specs.declared.Kind.TheVariants.{Caa, CaaOrAlias}
use Rattle.book_places.specs.declared.NameAuthorization.{NameAuthorization}
use Rattle.book_places.specs.declared.NameAuthorization.TheVariants.{Unrestricted, Forbidden, Governed, Unresolved}
use Rattle.book_places.specs.Table.{data_at, is_alias_at}
use Rattle.book_places.specs.Chains.{behind, along, chain_from}
use Rattle.book_places.specs.Sets.{is_owned_of, owned_of, owned_from, first_of, first_owned, and_then, onward_at, resolved, resolved_from, looked_up_at, or_next, nearest_from, nearest_record, set_at, data_has_tag, data_is_unknown_critical, in_set, first_unknown_critical, first_tagged}
use Rattle.book_places.specs.NameAuthorizations.{governed_by, by_issue, by_tags, unless_critical, set_authorization, by_set, name_authorization}
use Rattle.book_places.specs.Theorems.{AuthorizationBounds}

module _ (links : List ℕ) where
  abbrev Below : ℕ → Type 0
  Below i = i < length links

  -- the record that is answered, if any, has a link
  abbrev pub FirstBelow : Option RecordNo → Type 0
  FirstBelow None = Unit
  FirstBelow (Some r) = r.0 < length links

  along_below : (steps i : ℕ) → All Below (along steps links i)
  along_below zero i = all_nil
  along_below (suc steps) i = go (ltb i (length links)) refl (along_below steps (behind links i))
    where
      go : (t : Bool) → ltb i (length links) ≡ t → All Below (along steps links (behind links i)) → All Below (cond t (i ∷ along steps links (behind links i)) [])
      go true e rest = all_cons (ltb-true i (length links) e) rest
      go false e rest = all_nil

  chain_below : (i : ℕ) → All Below (chain_from links i)
  unfolding chain_from
  chain_below i = along_below (length links) i

  select_below : (p : ℕ → Bool) {is : List ℕ} → All Below is → All Below (select p is)
  select_below p {is} all = selects_all (selected p (λ i. (λ e. e, λ e. e)) is) all

  first_below : {is : List ℕ} → All Below is → FirstBelow (first_of is)
  first_below all_nil = tt
  first_below (all_cons h hs) = h

  module _ (book table : List ℕ) where
    owned_below : (kind : Kind) (x : List ℕ) (i : ℕ) → All Below (owned_of kind book table links x i)
    unfolding owned_of
    owned_below kind x i = select_below (is_owned_of kind book table x) (chain_below i)

    in_set_below : (test : List ℕ → Bool) (first : ℕ) → All Below (in_set test book table links first)
    unfolding set_at
    in_set_below test first = select_below (λ i. test (data_at book table i)) (owned_below Caa _ first)

    pub next_owned_below : (x : List ℕ) (i : ℕ) → FirstBelow (first_of (owned_from book table links x i))
    next_owned_below x i = first_below (owned_below Caa x i)

    pub critical_below : (first : ℕ) → FirstBelow (first_unknown_critical book table links first)
    unfolding first_unknown_critical
    critical_below first = first_below (in_set_below data_is_unknown_critical first)

    pub tagged_below : (tag : PropertyTag) (first : ℕ) → FirstBelow (first_tagged tag book table links first)
    unfolding first_tagged
    tagged_below tag first = first_below (in_set_below (data_has_tag tag) first)

    module _ (heads : List ℕ) where
      pub owned_first_below : (kind : Kind) (x : List ℕ) → FirstBelow (first_owned kind book table links heads x)
      unfolding first_owned
      owned_first_below kind x = first_below (owned_below kind x _)

      module _ (onward : List ℕ) where
        onward_below : (i : ℕ) → FirstBelow (onward_at links onward i)
        onward_below i = go (ltb (get_or onward i (length links)) (length links)) refl
          where
            go :
                (t : Bool) → ltb (get_or onward i (length links)) (length links) ≡ t →
                FirstBelow (cond t (Some (record { 0 = get_or onward i (length links) })) None)
            go true e = ltb-true (get_or onward i (length links)) (length links) e
            go false e = tt

        then_below : (o : Option RecordNo) (next : RecordNo → Option RecordNo) → FirstBelow o → ((r : RecordNo) → r.0 < length links → FirstBelow (next r)) → FirstBelow (and_then o next)
        then_below None next h k = tt
        then_below (Some r) next h k = k r h

        either_below : (t : Bool) (a b : Option RecordNo) → FirstBelow a → FirstBelow b → FirstBelow (cond t a b)
        either_below true a b h k = h
        either_below false a b h k = k

        resolved_below :
            (n : ℕ) (first r : RecordNo) → first.0 < length links → r.0 < length links → FirstBelow (resolved n table links onward first r)
        resolved_below zero first r h k = either_below (is_alias_at table r.0) (Some first) (Some r) h k
        resolved_below (suc n) first r h k =
            either_below (is_alias_at table r.0) _ (Some r)
            (then_below (onward_at links onward r.0) (resolved n table links onward first) (onward_below r.0) (λ q l. resolved_below n first q h l)) k

        look_below : (x : List ℕ) → FirstBelow (looked_up_at book table links heads onward x)
        unfolding looked_up_at resolved_from
        look_below x =
            then_below (first_owned CaaOrAlias book table links heads x) (λ r. resolved max_aliases table links onward r r) (owned_first_below CaaOrAlias x)
            (λ r h. resolved_below max_aliases r r h h)

        or_below : (o next : Option RecordNo) → FirstBelow o → FirstBelow next → FirstBelow (or_next o next)
        or_below None next h k = k
        or_below (Some r) next h k = h

        climb_below : (steps : ℕ) (s : List ℕ) (at : ℕ) → FirstBelow (nearest_from steps book table links heads onward s at)
        climb_below zero s at = tt
        climb_below (suc steps) s at =
            go (eqb (parent_place s at) at) _
            (or_below (looked_up_at book table links heads onward (drop at s)) _ (look_below (drop at s)) (climb_below steps s (parent_place s at)))
          where
            go : (t : Bool) (o : Option RecordNo) → FirstBelow o → FirstBelow (cond t None o)
            go true o h = tt
            go false o h = h

        pub nearest_below : (x : List ℕ) → FirstBelow (nearest_record book table links heads onward x)
        unfolding nearest_record
        nearest_below x = climb_below (length x) x 0

    -- of each answer
    abbrev pub AnswerBelow : NameAuthorization → Type 0
    AnswerBelow Unrestricted = Unit
    AnswerBelow (Forbidden r) = r.0 < length links
    AnswerBelow (Unresolved r) = r.0 < length links
    AnswerBelow (Governed g) = (g.set.0 < length links) × (g.first.0 < length links) × ((g.tag ≡ Issue) ⊎ (g.tag ≡ IssueWild))

    module _ (set : RecordNo) (below : set.0 < length links) where
      governed_below :
          (tag : PropertyTag) → (tag ≡ Issue) ⊎ (tag ≡ IssueWild) → (o : Option RecordNo) → FirstBelow o →
          (otherwise : NameAuthorization) → AnswerBelow otherwise → AnswerBelow (governed_by book table links set tag o otherwise)
      governed_below tag known None h otherwise k = k
      governed_below tag known (Some r) h otherwise k = (below, h, known)

      issue_below : AnswerBelow (by_issue book table links set)
      issue_below = governed_below Issue (inl refl) (first_tagged Issue book table links set.0) (tagged_below Issue set.0) Unrestricted tt

      tags_below : (wildcard : Bool) → AnswerBelow (by_tags book table links wildcard set)
      tags_below false = issue_below
      tags_below true =
          governed_below IssueWild (inr refl) (first_tagged IssueWild book table links set.0) (tagged_below IssueWild set.0) _ issue_below

      unless_below : (o : Option RecordNo) → FirstBelow o → (otherwise : NameAuthorization) → AnswerBelow otherwise → AnswerBelow (unless_critical book table links o otherwise)
      unless_below None h otherwise k = k
      unless_below (Some r) h otherwise k = h

    set_below : (wildcard : Bool) (o : Option RecordNo) → FirstBelow o → AnswerBelow (by_set book table links wildcard o)
    unfolding set_authorization
    set_below wildcard None h = tt
    set_below wildcard (Some set) h =
        go (is_alias_at table set.0) _
        (unless_below set h (first_unknown_critical book table links set.0) (critical_below set.0) _ (tags_below set h wildcard))
      where
        go : (t : Bool) (n : NameAuthorization) → AnswerBelow n → AnswerBelow (cond t (Unresolved set) n)
        go true n k = h
        go false n k = k

    pub answer_below : (heads onward x : List ℕ) (wildcard : Bool) → AnswerBelow (name_authorization book table links heads onward x wildcard)
    unfolding name_authorization
    answer_below heads onward x wildcard = set_below wildcard (nearest_record book table links heads onward x) (nearest_below heads onward x)

pub authorization_bounds : AuthorizationBounds
authorization_bounds book table links heads onward x wildcard =
    let below = answer_below links book table heads onward x wildcard in
    (λ g e. rw e at below, λ r e. rw e at below, λ r e. rw e at below)
