-- What the definitions of this crate mean. Each statement is proved under its name in proofs/.
use Rattle.std.specs.Prelude.{ℕ, suc, ◌+◌, ◌≤◌, ◌<◌, ◌≡◌, ◌↔◌, ◌≢◌, ◌⊎◌, length, take, drop, None}
use mathlib.Core.List.{List, [], ◌∷◌, ◌++◌, map, Memᴰ}
use Rattle.spec_refusal.specs.declared.Refusal.{Refusal}
use Rattle.spec_refusal.specs.declared.Refusal.TheVariants.{NoRoom}
use Rattle.spec_refusal.specs.Order.{rank}
use Rattle.spec_limits.specs.Limits.{max_aliases}
use Rattle.spec_octets.specs.Lists.{All, Any, First, Distinct, Selects}
use Rattle.spec_octets.specs.Octets.{Octets, lowered}
use Rattle.spec_octets.specs.Items.{whole, items}
use Rattle.spec_name.specs.Names.{Name, GoodName}
use Rattle.spec_request.specs.Request.{base, requested_names, request_refusal}
use Rattle.spec_request.specs.Theorems.{RequestRow}
use Rattle.spec_issuer.specs.Issuer.{issuer_refusal, WellFormed}
use Rattle.spec_issuer.specs.Theorems.{IssuerRow}
use Rattle.spec_applicant.specs.Applicant.{Applicant, applicant_refusal}
use Rattle.spec_applicant.specs.Theorems.{ApplicantRow}
use Rattle.spec_record.specs.Records.{Record, records, book_refusal, GoodRecord}
use Rattle.spec_record.specs.Theorems.{BookRow}
use Rattle.spec_rule.specs.declared.Judgement.{Judgement}
use Rattle.spec_rule.specs.declared.Judgement.TheVariants.{Permitted, UnknownCritical, NotGranted, TooManyAliases, Refused}
use Rattle.spec_rule.specs.declared.PermittedIssuers.TheVariants.{Anyone, Listed, Refused as ListRefused}
use Rattle.spec_rule.specs.Aliases.{Alias, aliases}
use Rattle.spec_rule.specs.RelevantSet.{CaaRecord, Book, Lookup, empty, found, endless, caa_records, as_book, lookup, relevant_set, labels_off}
use Rattle.spec_rule.specs.Authorizations.{Authorization, unrestricted, forbidden, granted, unresolved, authorization}
use Rattle.spec_rule.specs.Verdicts.{denial, decision, verdict}
use Rattle.spec_rule.specs.IssuerLists.{Issuers, anyone, listed, issuers, entries, read_entry}
use Rattle.spec_rule.specs.Calls.{authorizations, judge, Listing, list_issuers, judgement_code}
use Rattle.spec_rule.specs.Meaning.{CaaRecordsOf, AliasesOf, OwnedBy, AliasOf, Leads, EndsAt, NearestAt, UnknownCriticalRecord, Relevant, Unrestricted, PermittedTo, ForbiddenBy, GovernedFrom, GoverningRecords, UnresolvedFrom, DecidedAt, LowestNot, Before, GrantedBefore}

-- The CAA records are those of type 257 and class 1, numbered from 0 over all records.
abbrev pub CaaRecords : Type 0
CaaRecords = (rs : List Record) → All GoodRecord rs → CaaRecordsOf 0 rs (caa_records rs)

-- The aliases are those of type 5 and class 1, numbered in the same way.
abbrev pub AliasRecords : Type 0
AliasRecords = (rs : List Record) → All GoodRecord rs → AliasesOf 0 rs (aliases rs)

-- A lookup finds all CAA records, in the order of the book, of the name at which following aliases ends. It reports the first alias exactly
-- when nine can be followed.
abbrev pub ALookup : Type 0
ALookup =
    (book : Book) (x : Name) →
    ((lookup book x ≡ empty) ↔ ((y : Name) × EndsAt book.aliases x y × All (λ r. OwnedBy y r → ⊥) book.caa))
    × ((rs : List CaaRecord) → (lookup book x ≡ found rs)
    ↔ ((y : Name) × EndsAt book.aliases x y × Selects (OwnedBy y) book.caa rs × (rs ≢ [])))
    × ((r : ℕ) → (lookup book x ≡ endless r)
    ↔ ((y : Name) × Leads book.aliases (suc max_aliases) x y × ((a : Alias) × First (AliasOf x) book.aliases a × (a.number ≡ r))))

-- Without aliases in the book, a lookup finds all CAA records of that owner, in the order of the book.
abbrev pub LookupWithoutAliases : Type 0
LookupWithoutAliases =
    (book : Book) (x : Name) → book.aliases ≡ [] →
    ((lookup book x ≡ empty) ↔ All (λ r. OwnedBy x r → ⊥) book.caa)
    × ((rs : List CaaRecord) → (lookup book x ≡ found rs) ↔ (Selects (OwnedBy x) book.caa rs × (rs ≢ [])))
    × ((r : ℕ) → lookup book x ≢ endless r)

-- The relevant set is what is found at the first of X, its parent, .. where the lookup is not empty. The root is not among these names, and
-- no name above the end of an alias is.
abbrev pub NearestNameDecides : Type 0
NearestNameDecides =
    (book : Book) (x : Name) →
    ((l : Lookup) → l ≢ empty → (relevant_set book x ≡ l) ↔ ((k : ℕ) × NearestAt book x k l))
    × ((relevant_set book x ≡ empty) ↔ ((k : ℕ) → k < length x → lookup book (drop k x) ≡ empty))

-- A lookup other than the empty one is the nearest with k labels taken off exactly when k is the number that is counted, and it is the relevant
-- set. If no name has such a lookup, all labels are counted.
abbrev pub LabelsTakenOff : Type 0
LabelsTakenOff =
    (book : Book) (x : Name) →
    ((k : ℕ) (l : Lookup) → l ≢ empty → NearestAt book x k l ↔ ((labels_off book x ≡ k) × (relevant_set book x ≡ l)))
    × (relevant_set book x ≡ empty → labels_off book x ≡ length x)

-- A name is decided at one place alone.
abbrev pub DecidedOnce : Type 0
DecidedOnce = (book : Book) (n : Name) (u w : ℕ) → DecidedAt book n u → DecidedAt book n w → u ≡ w

-- At least one label is left. A valid name has at most 127 labels, so at most 126 are taken off.
abbrev pub UpBelowLabels : Type 0
UpBelowLabels = (book : Book) (n : Name) (u : ℕ) → DecidedAt book n u → (u < length (base n)) × (GoodName n → u < 127)

-- Permitted exactly when every name is unrestricted or granted to the issuer. Otherwise: the lowest name that isn't, why, and how far up.
abbrev pub VerdictOn : Applicant → Book → List Name → List ℕ → Judgement → Type 0
VerdictOn who book ns d v =
    ((v ≡ Permitted) ↔ All (λ n. PermittedTo book n who d) ns)
    × ((k r u : ℕ) → (v ≡ UnknownCritical (denial k r u))
    ↔ ((n : Name) × LowestNot (λ m. PermittedTo book m who d) ns k n × ForbiddenBy book n r × DecidedAt book n u))
    × ((k r u : ℕ) → (v ≡ NotGranted (denial k r u))
    ↔ ((n : Name) × LowestNot (λ m. PermittedTo book m who d) ns k n × GovernedFrom book n r × DecidedAt book n u))
    × ((k r u : ℕ) → (v ≡ TooManyAliases (denial k r u))
    ↔ ((n : Name) × LowestNot (λ m. PermittedTo book m who d) ns k n × UnresolvedFrom book n r × DecidedAt book n u))
    × ((r : Refusal) → v ≢ Refused r)

abbrev pub VerdictByTheRule : Type 0
VerdictByTheRule =
    (who : Applicant) (book : Book) (ns : List Name) (d : List ℕ) → VerdictOn who book ns d (verdict d (map (decision who book) ns))

-- The verdict in the requirements' numbers: 0; 20, 21 and 22 with the numbers of name, record and labels taken off. No other number is a verdict.
abbrev pub VerdictNumbers : Type 0
VerdictNumbers =
    (who : Applicant) (book : Book) (ns : List Name) (d : List ℕ) (v : Judgement) → VerdictOn who book ns d v →
    ((judgement_code v ≡ record { number = 0; values = [] }) ↔ All (λ n. PermittedTo book n who d) ns)
    × ((k r u : ℕ) → (judgement_code v ≡ record { number = 20; values = k ∷ r ∷ u ∷ [] })
    ↔ ((n : Name) × LowestNot (λ m. PermittedTo book m who d) ns k n × ForbiddenBy book n r × DecidedAt book n u))
    × ((k r u : ℕ) → (judgement_code v ≡ record { number = 21; values = k ∷ r ∷ u ∷ [] })
    ↔ ((n : Name) × LowestNot (λ m. PermittedTo book m who d) ns k n × GovernedFrom book n r × DecidedAt book n u))
    × ((k r u : ℕ) → (judgement_code v ≡ record { number = 22; values = k ∷ r ∷ u ∷ [] })
    ↔ ((n : Name) × LowestNot (λ m. PermittedTo book m who d) ns k n × UnresolvedFrom book n r × DecidedAt book n u))
    × (((judgement_code v).number ≡ 0) ⊎ ((judgement_code v).number ≡ 20) ⊎ ((judgement_code v).number ≡ 21) ⊎ ((judgement_code v).number ≡ 22))

-- An accepted request, issuer domain name and book are judged by their names and records.
abbrev pub JudgeAccepted : Type 0
JudgeAccepted =
    (request issuer : List ℕ) (who : Applicant) (book : List ℕ) →
    request_refusal request ≡ None → issuer_refusal issuer ≡ None → applicant_refusal who ≡ None → book_refusal book ≡ None →
    VerdictOn who (as_book (records book)) (requested_names request) issuer (judge request issuer who book)

-- The output needs n octets, and the buffer has fewer.
abbrev pub Row8 : List ℕ → Applicant → List ℕ → List ℕ → ℕ → Type 0
Row8 request who book buffer n =
    (ns : List (List ℕ)) × (issuers (authorizations request who book) ≡ listed ns) × (length (entries ns) ≡ n) × (length buffer < n)

-- The same by refusal.
abbrev pub RoomRow : List ℕ → Applicant → List ℕ → List ℕ → Refusal → Type 0
RoomRow request who book buffer r = (n : ℕ) × (r ≡ NoRoom n) × Row8 request who book buffer n

-- The requirements' table: the row of r holds. Each call has the rows of its inputs; the order of checks is stated in `FirstRow`.
abbrev pub JudgeRow : List ℕ → List ℕ → Applicant → List ℕ → Refusal → Type 0
JudgeRow request issuer who book r = RequestRow request r ⊎ IssuerRow issuer r ⊎ ApplicantRow who r ⊎ BookRow book r

abbrev pub ListRow : List ℕ → Applicant → List ℕ → List ℕ → Refusal → Type 0
ListRow request who book buffer r = RequestRow request r ⊎ ApplicantRow who r ⊎ BookRow book r ⊎ RoomRow request who book buffer r

-- The row of r holds, and no row that comes before it in the order of checks (`order` of spec_refusal).
abbrev pub FirstRow : (Refusal → Type 0) → Refusal → Type 0
FirstRow rows r = rows r × ((q : Refusal) → rank q < rank r → rows q → ⊥)

-- Each refusal is returned exactly when the table says so.
abbrev pub JudgeRefusals : Type 0
JudgeRefusals =
    (request issuer : List ℕ) (who : Applicant) (book : List ℕ) → Octets request → Octets book → (r : Refusal) →
    (judge request issuer who book ≡ Refused r) ↔ FirstRow (JudgeRow request issuer who book) r

-- The same for the listing call; and a refusal leaves the buffer unchanged.
abbrev pub ListRefusals : Type 0
ListRefusals =
    (request : List ℕ) (who : Applicant) (book buffer : List ℕ) → Octets request → Octets book → (r : Refusal) →
    (((list_issuers request who book buffer).answer ≡ ListRefused r) ↔ FirstRow (ListRow request who book buffer) r)
    × ((list_issuers request who book buffer).answer ≡ ListRefused r → (list_issuers request who book buffer).buffer ≡ buffer)

-- The requirements' third demand, on who may issue, stated over the verdict: what the permitted issuers are, for an accepted request and book.
pub record PermittedIssuersAre (request : List ℕ) (who : Applicant) (book : List ℕ) (answer : Issuers) : Type 0 where
  pub anyone_exactly : (answer ≡ anyone) ↔ All (Unrestricted (as_book (records book))) (requested_names request)
  pub permitted_exactly : (d : List ℕ) → WellFormed d →
      (judge request d who book ≡ Permitted) ↔ ((answer ≡ anyone) ⊎ ((ns : List (List ℕ)) × (answer ≡ listed ns) × Memᴰ (lowered d) ns))
  pub well_formed : (ns : List (List ℕ)) → answer ≡ listed ns → All (λ n. WellFormed n × (lowered n ≡ n)) ns
  pub none_twice : (ns : List (List ℕ)) → answer ≡ listed ns → Distinct ns
  -- The order is that of the records that govern the restricted name with the lowest number.
  pub in_order : (ns : List (List ℕ)) → answer ≡ listed ns → (k : ℕ) (n : Name) (gs : List CaaRecord) →
      LowestNot (Unrestricted (as_book (records book))) (requested_names request) k n →
      GoverningRecords (as_book (records book)) n gs → (a b : List ℕ) → Memᴰ a ns → Memᴰ b ns →
      Before a b ns ↔ GrantedBefore who gs a b

abbrev pub PermittedIssuersExactly : Type 0
PermittedIssuersExactly =
    (request : List ℕ) (who : Applicant) (book : List ℕ) →
    request_refusal request ≡ None → applicant_refusal who ≡ None → book_refusal book ≡ None →
    PermittedIssuersAre request who book (issuers (authorizations request who book))

-- The octets of a list: the lengths of its names, and one more for each.
abbrev pub total : List (List ℕ) → ℕ
total [] = 0
total (n ∷ ns) = length n + 1 + total ns

-- The list is at the start of the buffer, and the octets after it are unchanged. For anyone the whole buffer is unchanged.
abbrev pub ListInTheBuffer : Type 0
ListInTheBuffer =
    (request : List ℕ) (who : Applicant) (book buffer : List ℕ) →
    request_refusal request ≡ None → applicant_refusal who ≡ None → book_refusal book ≡ None →
    (issuers (authorizations request who book) ≡ anyone →
    list_issuers request who book buffer ≡ record { answer = Anyone; buffer = buffer })
    × ((ns : List (List ℕ)) → issuers (authorizations request who book) ≡ listed ns → total ns ≤ length buffer →
    list_issuers request who book buffer
    ≡ record { answer = Listed (length ns) (total ns); buffer = entries ns ++ drop (total ns) buffer })

-- A critical record with an unknown tag in the relevant set of any requested name gives an empty list, in any buffer.
abbrev pub UnknownCriticalListsNobody : Type 0
UnknownCriticalListsNobody =
    (request : List ℕ) (who : Applicant) (book buffer : List ℕ) →
    request_refusal request ≡ None → applicant_refusal who ≡ None → book_refusal book ≡ None →
    Any
    (λ n. (rs : List CaaRecord) × Relevant (as_book (records book)) n rs × Any UnknownCriticalRecord rs)
    (requested_names request) →
    list_issuers request who book buffer ≡ record { answer = Listed 0 0; buffer = buffer }

-- So do aliases that don't end, where the lookup of a requested name decides by them.
abbrev pub UnresolvedListsNobody : Type 0
UnresolvedListsNobody =
    (request : List ℕ) (who : Applicant) (book buffer : List ℕ) →
    request_refusal request ≡ None → applicant_refusal who ≡ None → book_refusal book ≡ None →
    Any (λ n. (r : ℕ) × UnresolvedFrom (as_book (records book)) n r) (requested_names request) →
    list_issuers request who book buffer ≡ record { answer = Listed 0 0; buffer = buffer }

-- The list never needs more octets than the book has.
abbrev pub RoomOfTheBook : Type 0
RoomOfTheBook =
    (request : List ℕ) (who : Applicant) (book : List ℕ) → Octets book → book_refusal book ≡ None → (ns : List (List ℕ)) →
    issuers (authorizations request who book) ≡ listed ns → total ns ≤ length book

-- The names of a list can be read back from its octets.
abbrev pub EntriesReadBack : Type 0
EntriesReadBack = (ns : List (List ℕ)) → items read_entry (length ns) (entries ns) ≡ whole ns

-- The first `octets` octets of the buffer are exactly `count` entries: those of ns.
abbrev pub ReadsBack : ℕ → ℕ → List ℕ → List (List ℕ) → Type 0
ReadsBack count octets buffer ns =
    (octets ≤ length buffer) × (length ns ≡ count) × (items read_entry count (take octets buffer) ≡ whole ns)

-- The answer is a list, and ns are the names that a caller reads from the buffer.
abbrev pub ListsNames : Listing → List (List ℕ) → Type 0
ListsNames l ns = (count octets : ℕ) × (l.answer ≡ Listed count octets) × ReadsBack count octets l.buffer ns

-- The requirements' third demand, on who may issue, stated over the call: what a caller learns from the answer and the octets of the buffer.
pub record ListingTells (request : List ℕ) (who : Applicant) (book buffer : List ℕ) (l : Listing) : Type 0 where
  pub anyone_exactly : (l.answer ≡ Anyone) ↔ All (Unrestricted (as_book (records book))) (requested_names request)
  pub permitted_exactly : (d : List ℕ) → WellFormed d →
      (judge request d who book ≡ Permitted) ↔ ((l.answer ≡ Anyone) ⊎ ((ns : List (List ℕ)) × ListsNames l ns × Memᴰ (lowered d) ns))
  pub answered : (l.answer ≡ Anyone) ⊎ ((count octets : ℕ) × (l.answer ≡ Listed count octets))
  -- Whatever count and octets are returned, that list can be read.
  pub readable : (count octets : ℕ) → l.answer ≡ Listed count octets → (ns : List (List ℕ)) × ReadsBack count octets l.buffer ns
  pub counted : (ns : List (List ℕ)) → ListsNames l ns → l.answer ≡ Listed (length ns) (total ns)
  pub well_formed : (ns : List (List ℕ)) → ListsNames l ns → All (λ n. WellFormed n × (lowered n ≡ n)) ns
  pub none_twice : (ns : List (List ℕ)) → ListsNames l ns → Distinct ns
  -- The order is that of the records that govern the restricted name with the lowest number.
  pub in_order : (ns : List (List ℕ)) → ListsNames l ns → (k : ℕ) (n : Name) (gs : List CaaRecord) →
      LowestNot (Unrestricted (as_book (records book))) (requested_names request) k n →
      GoverningRecords (as_book (records book)) n gs → (a b : List ℕ) → Memᴰ a ns → Memᴰ b ns →
      Before a b ns ↔ GrantedBefore who gs a b
  pub length_stays : length l.buffer ≡ length buffer
  pub rest_stays : (count octets : ℕ) → l.answer ≡ Listed count octets → drop octets l.buffer ≡ drop octets buffer
  pub nothing_written : l.answer ≡ Anyone → l.buffer ≡ buffer

-- This holds for every buffer that is long enough, whatever its contents before.
abbrev pub CallListsThePermitted : Type 0
CallListsThePermitted =
    (request : List ℕ) (who : Applicant) (book buffer : List ℕ) →
    request_refusal request ≡ None → applicant_refusal who ≡ None → book_refusal book ≡ None →
    ((n : ℕ) → (list_issuers request who book buffer).answer ≢ ListRefused (NoRoom n)) →
    ListingTells request who book buffer (list_issuers request who book buffer)

-- A buffer as long as the book is always long enough.
abbrev pub BookLengthIsRoom : Type 0
BookLengthIsRoom =
    (request : List ℕ) (who : Applicant) (book buffer : List ℕ) → Octets book →
    request_refusal request ≡ None → applicant_refusal who ≡ None → book_refusal book ≡ None →
    length book ≤ length buffer → (r : Refusal) → (list_issuers request who book buffer).answer ≢ ListRefused r

-- A buffer is long enough exactly when it has the octets of the list, as answered for any other buffer; for anyone every buffer is.
abbrev pub RoomNeeded : Type 0
RoomNeeded =
    (request : List ℕ) (who : Applicant) (book buffer other : List ℕ) →
    request_refusal request ≡ None → applicant_refusal who ≡ None → book_refusal book ≡ None →
    ((list_issuers request who book other).answer ≡ Anyone → (list_issuers request who book buffer).answer ≡ Anyone)
    × ((count octets : ℕ) → (list_issuers request who book other).answer ≡ Listed count octets →
    (octets ≤ length buffer → (list_issuers request who book buffer).answer ≡ Listed count octets)
    × (length buffer < octets → list_issuers request who book buffer ≡ record { answer = ListRefused (NoRoom octets); buffer = buffer }))

-- Record numbers don't influence the decision: with other numbers only the numbers in the answer change.
abbrev pub renumbered : (ℕ → ℕ) → CaaRecord → CaaRecord
renumbered f r = record { number = f r.number; owner = r.owner; property = r.property }

abbrev pub renumbered_alias : (ℕ → ℕ) → Alias → Alias
renumbered_alias f a = record { number = f a.number; owner = a.owner; target = a.target }

abbrev pub renumbered_book : (ℕ → ℕ) → Book → Book
renumbered_book f book = record { caa = map (renumbered f) book.caa; aliases = map (renumbered_alias f) book.aliases }

abbrev pub renumbered_authorization : (ℕ → ℕ) → Authorization → Authorization
renumbered_authorization f unrestricted = unrestricted
renumbered_authorization f (forbidden r) = forbidden (f r)
renumbered_authorization f (granted r ns) = granted (f r) ns
renumbered_authorization f (unresolved r) = unresolved (f r)

abbrev pub renumbered_verdict : (ℕ → ℕ) → Judgement → Judgement
renumbered_verdict f Permitted = Permitted
renumbered_verdict f (UnknownCritical d) = UnknownCritical (denial d.name.0 (f d.rr.0) d.up.0)
renumbered_verdict f (NotGranted d) = NotGranted (denial d.name.0 (f d.rr.0) d.up.0)
renumbered_verdict f (TooManyAliases d) = TooManyAliases (denial d.name.0 (f d.rr.0) d.up.0)
renumbered_verdict f (Refused r) = Refused r

abbrev pub Renumbering : Type 0
Renumbering =
    (f : ℕ → ℕ) (who : Applicant) (book : Book) (ns : List Name) →
    (map (authorization who (renumbered_book f book)) ns ≡ map (renumbered_authorization f) (map (authorization who book) ns))
    × ((d : List ℕ) → verdict d (map (decision who (renumbered_book f book)) ns) ≡ renumbered_verdict f (verdict d (map (decision who book) ns)))
    × (issuers (map (authorization who (renumbered_book f book)) ns) ≡ issuers (map (authorization who book) ns))
