-- by_issue, by_tags, set_authorization and question_number: a law for each way out, from what the set was asked.
use Rattle.std.specs.Prelude.{Option, Some, None}
use Prim.Native.Nat.{ℕ}
use mathlib.Core.Path.{◌≡◌, ◌∙◌}
use mathlib.Core.Bool.{Bool, true, false}
use mathlib.Core.List.{List}
use Rattle.spec_refusal.specs.declared.RecordNo.{RecordNo}
use Rattle.spec_record.specs.declared.PropertyTag.TheVariants.{Issue, IssueWild}
use Rattle.book_places.specs.declared.NameAuthorization.{NameAuthorization}
use Rattle.book_places.specs.declared.NameAuthorization.TheVariants.{Unrestricted, Forbidden, Governed, Unresolved}
use Rattle.book_places.specs.Table.{is_alias_at}
use Rattle.book_places.specs.Sets.{first_unknown_critical, first_tagged}
use Rattle.book_places.specs.NameAuthorizations.{by_issue, by_tags, set_authorization}

module _ (book table links : List ℕ) where
  module _ (set : RecordNo) where
    -- o is the first issue record
    module _ (o : Option RecordNo) (f : o ≡ first_tagged Issue book table links set.0) where
      pub no_issue : o ≡ None → Unrestricted ≡ by_issue book table links set
      no_issue g = rw (← f, g)

      pub issue_governs : (r : RecordNo) → o ≡ Some r → Governed (record { set = set; first = r; tag = Issue }) ≡ by_issue book table links set
      issue_governs r g = rw (← f, g)

    -- a is what the issue records say
    module _ (wildcard : Bool) (a : NameAuthorization) (h : a ≡ by_issue book table links set) where
      pub plain_by_issue : wildcard ≡ false → a ≡ by_tags book table links wildcard set
      plain_by_issue w = h ∙ rw w

      pub star_by_issue :
          wildcard ≡ true → (o : Option RecordNo) → o ≡ first_tagged IssueWild book table links set.0 → o ≡ None →
          a ≡ by_tags book table links wildcard set
      star_by_issue w o f g = h ∙ rw (w, ← f, g)

    pub issuewild_governs :
        (wildcard : Bool) → wildcard ≡ true → (o : Option RecordNo) → o ≡ first_tagged IssueWild book table links set.0 → (r : RecordNo) → o ≡ Some r →
        Governed (record { set = set; first = r; tag = IssueWild }) ≡ by_tags book table links wildcard set
    issuewild_governs wildcard w o f r g = rw (w, ← f, g)

    pub alias_stands : (wildcard t : Bool) → t ≡ is_alias_at table set.0 → t ≡ true → Unresolved set ≡ set_authorization book table links wildcard set
    unfolding set_authorization
    alias_stands wildcard t is h = rw (← is, h)

    -- u is the first unknown critical record
    module _
        (wildcard t : Bool) (is : t ≡ is_alias_at table set.0) (no_alias : t ≡ false) (u : Option RecordNo)
        (e : u ≡ first_unknown_critical book table links set.0) where
      pub critical_forbids : (r : RecordNo) → u ≡ Some r → Forbidden r ≡ set_authorization book table links wildcard set
      unfolding set_authorization
      critical_forbids r h = rw (← is, no_alias, ← e, h)

      pub tags_decide :
          u ≡ None → (a : NameAuthorization) → a ≡ by_tags book table links wildcard set → a ≡ set_authorization book table links wildcard set
      unfolding set_authorization
      tags_decide h a k = k ∙ rw (← is, no_alias, ← e, h)
