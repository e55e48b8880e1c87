-- What the definitions of this crate mean, in terms of the rule (spec_rule). Each statement is proved under its name in proofs/.
use Rattle.std.specs.Prelude.{ℕ, suc, ◌*◌, ◌≤◌, ◌<◌, ◌≡◌, List, map, length, replicate, None}
use Rattle.spec_limits.specs.Limits.{max_book_octets}
use Rattle.spec_octets.specs.Lists.{any, select, All}
use Rattle.spec_octets.specs.Octets.{same, lowered}
use Rattle.spec_request.specs.Request.{request_refusal}
use Rattle.spec_record.specs.Records.{book_refusal}
use Rattle.spec_applicant.specs.Applicant.{Applicant}
use Rattle.spec_rule.specs.IssuerLists.{distinct, issuers}
use Rattle.spec_rule.specs.Calls.{authorizations}
use Rattle.book_places.specs.Table.{room_for, table_of}
use Rattle.book_places.specs.Chains.{chains_of}
use Rattle.book_places.specs.Onward.{onward_of}
use Rattle.book_places.specs.NameAuthorizations.{set_grantees}
use Rattle.list_places.specs.declared.TaggedSet.{TaggedSet}
use Rattle.list_places.specs.Grants.{grants_by, grant_octets}
use Rattle.list_places.specs.Candidates.{candidates, Candidates, collected}
use Rattle.list_places.specs.Rounds.{kept_names, narrowed}
use Rattle.list_places.specs.PermittedBy.{permitted_in, issuers_in}

-- The names in the grants of a tagged set, in lower case, are the issuers that the set grants, in the same order.
abbrev pub GrantsByOffset : Type 0
GrantsByOffset =
    (who : Applicant) (book table links : List ℕ) → length book ≤ max_book_octets → (s : TaggedSet) →
    map (λ g. lowered (grant_octets book g)) (grants_by who book table links s) ≡ set_grantees who book table links s.tag s.set

-- The candidates that are collected from a tagged set are these issuers, each once. An array with two numbers for each link has room for all.
abbrev pub CollectedByOffset : Type 0
CollectedByOffset =
    (who : Applicant) (book table links names : List ℕ) → length book ≤ max_book_octets → 2 * length links ≤ length names → (s : TaggedSet) (c : Candidates) →
    c ≡ collected who book table links s names → candidates book c.names c.count ≡ distinct (set_grantees who book table links s.tag s.set)

-- The candidates in the next round are those of this round that the tagged set grants. No candidate is in a later round.
abbrev pub NarrowedByOffset : Type 0
NarrowedByOffset =
    (who : Applicant) (book table links names rounds : List ℕ) → length book ≤ max_book_octets → (count t : ℕ) → t < 65535 → All (λ r. r ≤ t) rounds → (s : TaggedSet) →
    (kept_names book names count (narrowed who book names table links s count t rounds) (suc t)
    ≡ select (λ m. any (same m) (set_grantees who book table links s.tag s.set)) (kept_names book names count rounds t))
    × All (λ r. r ≤ suc t) (narrowed who book names table links s count t rounds)

-- The answer is the rule's: anyone, or the issuers that the rule lists, in the rule's order. An array with two numbers for each record that
-- there is room for is enough for the candidates. Every candidate starts in round 0.
abbrev pub PermittedByOffset : Type 0
PermittedByOffset =
    (who : Applicant) (request book names : List ℕ) → request_refusal request ≡ None → book_refusal book ≡ None → 2 * room_for book ≤ length names →
    issuers_in book (permitted_in who request book (table_of book) (chains_of book).links (chains_of book).heads (onward_of book) names (replicate (room_for book) 0))
    ≡ issuers (authorizations request who book)
