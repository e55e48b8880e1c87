-- What a caller of the library may rely on: one statement for each exported call, about the word that it returns and the octets of the
-- buffer before and after, and nothing else. Bits 0 to 7 of a word hold its number; the fields a, b and c follow
-- (`number_in`, `field_a`, `field_b`, `field_c` of spec_packed). Each statement is proved under its name in proofs/. The calls on a session have
-- theirs in SessionDoor.antt of spec_session_words.
--
-- Where the terms of the statements are defined, in specs/ of the crate named:
--   Row1 to Row8, Row12, Row15   the rows of the table of refusals: Theorems.antt of spec_request, spec_issuer, spec_record, spec_rule,
--                                    spec_applicant
--   Applicant                        who asks, the account text and the method text: Applicant.antt of spec_applicant
--   order                            the order of checks, as refusal numbers: Order.antt of spec_refusal
--   WellFormed                       a valid issuer domain name: Issuer.antt of spec_issuer
--   PermittedTo, Unrestricted, ..    the rule of issue for one name: Meaning.antt of spec_rule
--   DecidedAt                        how many labels are taken off X: Meaning.antt of spec_rule
--   Writable, small_tag               which data has a line, and data with its tag in lower case: Theorems.antt of spec_line
--   LineOf                           which lines stand for which data: Grammar.antt of spec_line
use Rattle.std.specs.Prelude.{ℕ, ◌≤◌, ◌<◌, ◌≡◌, ◌↔◌, ◌≢◌, ◌⊎◌, length, take, drop}
use mathlib.Core.List.{List, [], ◌∷◌, map, Memᴰ}
use Rattle.spec_limits.specs.Limits.{max_names, max_records, max_data_octets, max_line_octets}
use Rattle.spec_refusal.specs.Order.{order, stands_at}
use Rattle.spec_octets.specs.Lists.{All, Distinct, flatten}
use Rattle.spec_octets.specs.Octets.{Octets, lowered}
use Rattle.spec_octets.specs.Items.{whole, items}
use Rattle.spec_name.specs.Names.{Name, wire}
use Rattle.spec_request.specs.Request.{requested_names, GoodRequested}
use Rattle.spec_request.specs.Theorems.{Row1, Row2, Row3}
use Rattle.spec_issuer.specs.Issuer.{WellFormed}
use Rattle.spec_issuer.specs.Theorems.{Row4}
use Rattle.spec_record.specs.Property.{Property, wire_property}
use Rattle.spec_record.specs.Records.{wire_record, records, GoodRecord}
use Rattle.spec_record.specs.Theorems.{Row5, Row6, Row7, Row12}
use Rattle.spec_applicant.specs.Applicant.{Applicant}
use Rattle.spec_applicant.specs.Theorems.{Row15}
use Rattle.spec_rule.specs.RelevantSet.{CaaRecord, as_book}
use Rattle.spec_rule.specs.IssuerLists.{entries, read_entry}
use Rattle.spec_rule.specs.Calls.{judge, list_issuers}
use Rattle.spec_rule.specs.Meaning.{Unrestricted, PermittedTo, ForbiddenBy, GovernedFrom, GoverningRecords, UnresolvedFrom, DecidedAt, LowestNot, Before, GrantedBefore}
use Rattle.spec_rule.specs.Theorems.{Row8}
use Rattle.spec_line.specs.Written.{line}
use Rattle.spec_line.specs.Grammar.{LineOf}
use Rattle.spec_line.specs.Calls.{write_line, parse_line}
use Rattle.spec_line.specs.Theorems.{small_tag, Writable}
use Rattle.spec_packed.specs.Packed.{number_in, field_a, field_b, field_c}
use Rattle.spec_answers.specs.Answers.{packed_judgement}
use Rattle.spec_answers.specs.ListAnswers.{packed_issuers}
use Rattle.spec_answers.specs.LineAnswers.{packed_line}

-- The four calls, as in their contracts in crates/splinepearl/src/lib.rt: the word, and the buffer afterwards.

pub record Returned : Type 0 where
  pub word : ℕ
  pub buffer : List ℕ

abbrev pub caa_judge_for : List ℕ → List ℕ → Applicant → List ℕ → ℕ
caa_judge_for request issuer who book = packed_judgement (judge request issuer who book)

abbrev pub caa_permitted_issuers_for : List ℕ → Applicant → List ℕ → List ℕ → Returned
caa_permitted_issuers_for request who book buffer =
    record { word = packed_issuers (list_issuers request who book buffer).answer; buffer = (list_issuers request who book buffer).buffer }

abbrev pub caa_write_line : List ℕ → List ℕ → Returned
caa_write_line d buffer = record { word = packed_line (write_line d buffer).answer; buffer = (write_line d buffer).buffer }

abbrev pub caa_read_line : List ℕ → List ℕ → Returned
caa_read_line s buffer = record { word = packed_line (parse_line s buffer).answer; buffer = (parse_line s buffer).buffer }

-- The table of refusals, a part for each input: row n holds with the place p. The place of a refusal is the number of a name or record, the
-- octets needed, or 0; the word has it in field a.

pub data RequestTable (request : List ℕ) : ℕ → ℕ → Type 0 where
  -- The request is over its limit of octets.
  row_1 : Row1 request → RequestTable request 1 0
  -- The request is empty, or name k breaks a rule.
  row_2 : (k : ℕ) → Row2 request k → RequestTable request 2 k
  -- Octets are left after the maximum number of valid names.
  row_3 : Row3 request → RequestTable request 3 max_names

pub data IssuerTable (issuer : List ℕ) : ℕ → ℕ → Type 0 where
  -- The issuer domain name breaks a rule.
  row_4 : Row4 issuer → IssuerTable issuer 4 0

pub data ApplicantTable (who : Applicant) : ℕ → ℕ → Type 0 where
  -- The account text, the method text or both break a rule.
  row_15 : Row15 who → ApplicantTable who 15 0

pub data BookTable (book : List ℕ) : ℕ → ℕ → Type 0 where
  -- The book is over its limit of octets.
  row_5 : Row5 book → BookTable book 5 0
  -- Record k is malformed.
  row_6 : (k : ℕ) → Row6 book k → BookTable book 6 k
  -- Octets are left after the maximum number of valid records.
  row_7 : Row7 book → BookTable book 7 max_records
  -- Record k has the same owner as a record before it, and one of the two is an alias, the other an alias or a CAA record.
  row_12 : (k : ℕ) → Row12 book k → BookTable book 12 k

pub data RoomTable (request : List ℕ) (who : Applicant) (book buffer : List ℕ) : ℕ → ℕ → Type 0 where
  -- The output needs n octets, and the buffer has fewer.
  row_8 : (n : ℕ) → Row8 request who book buffer n → RoomTable request who book buffer 8 n

-- The rows of caa_judge_for, and those of caa_permitted_issuers_for.
abbrev pub JudgeTable : List ℕ → List ℕ → Applicant → List ℕ → ℕ → ℕ → Type 0
JudgeTable request issuer who book n p = RequestTable request n p ⊎ IssuerTable issuer n p ⊎ ApplicantTable who n p ⊎ BookTable book n p

abbrev pub ListTable : List ℕ → Applicant → List ℕ → List ℕ → ℕ → ℕ → Type 0
ListTable request who book buffer n p =
    RequestTable request n p ⊎ ApplicantTable who n p ⊎ BookTable book n p ⊎ RoomTable request who book buffer n p

-- Row n holds with the place p, and no row holds that comes before n in the order of checks.
abbrev pub FirstToHold : (ℕ → ℕ → Type 0) → ℕ → ℕ → Type 0
FirstToHold row n p = row n p × ((m q : ℕ) → stands_at m order < stands_at n order → row m q → ⊥)

abbrev pub NoneHolds : (ℕ → ℕ → Type 0) → Type 0
NoneHolds row = (n p : ℕ) → row n p → ⊥

-- The issuer may issue for every name of the request, to the applicant.
abbrev pub EveryPermitted : List ℕ → List ℕ → Applicant → List ℕ → Type 0
EveryPermitted request issuer who book = All (λ n. PermittedTo (as_book (records book)) n who issuer) (requested_names request)

-- Name k of the request is n, the lowest for which the issuer may not issue.
abbrev pub LowestDenied : List ℕ → List ℕ → Applicant → List ℕ → ℕ → Name → Type 0
LowestDenied request issuer who book k n = LowestNot (λ m. PermittedTo (as_book (records book)) m who issuer) (requested_names request) k n

-- caa_judge_for: may the issuer issue for every name of the request?
pub record JudgeWord (request issuer : List ℕ) (who : Applicant) (book : List ℕ) (word : ℕ) : Type 0 where
  -- Refusal n with place p in a: exactly when row n of the table holds with place p and no row before it in the order of checks holds.
  pub refused_exactly : (n p : ℕ) → 1 ≤ n → n ≤ 19 →
      ((number_in word ≡ n) × (field_a word ≡ p)) ↔ FirstToHold (JudgeTable request issuer who book) n p
  -- 0, permitted: exactly when no row holds and every name is unrestricted or granted to the issuer for the applicant.
  pub permitted_exactly : (number_in word ≡ 0) ↔ (NoneHolds (JudgeTable request issuer who book) × EveryPermitted request issuer who book)
  -- 20, unknown critical: exactly when no row holds, k in a is the lowest name denied, r in b is the first critical record
  -- with an unknown tag in its relevant set, and u in c says how many labels were taken off X to find that set.
  pub unknown_critical_exactly : (k r u : ℕ) →
      ((number_in word ≡ 20) × (field_a word ≡ k) × (field_b word ≡ r) × (field_c word ≡ u))
      ↔ (NoneHolds (JudgeTable request issuer who book)
      × ((n : Name) × LowestDenied request issuer who book k n × ForbiddenBy (as_book (records book)) n r
      × DecidedAt (as_book (records book)) n u))
  -- 21, not granted: exactly when no row holds, k in a is the lowest name denied, its relevant set has no critical record with an
  -- unknown tag, r in b is the first record that governs it, and u in c is as for 20.
  pub not_granted_exactly : (k r u : ℕ) →
      ((number_in word ≡ 21) × (field_a word ≡ k) × (field_b word ≡ r) × (field_c word ≡ u))
      ↔ (NoneHolds (JudgeTable request issuer who book)
      × ((n : Name) × LowestDenied request issuer who book k n × GovernedFrom (as_book (records book)) n r
      × DecidedAt (as_book (records book)) n u))
  -- 22, too many aliases: exactly when no row holds, k in a is the lowest name denied, r in b is the first alias of X, or of a name above it,
  -- whose aliases don't end and by which the search ends, and u in c says how many labels were taken off X to reach the owner of r.
  pub too_many_aliases_exactly : (k r u : ℕ) →
      ((number_in word ≡ 22) × (field_a word ≡ k) × (field_b word ≡ r) × (field_c word ≡ u))
      ↔ (NoneHolds (JudgeTable request issuer who book)
      × ((n : Name) × LowestDenied request issuer who book k n × UnresolvedFrom (as_book (records book)) n r
      × DecidedAt (as_book (records book)) n u))
  -- No other number is ever returned.
  pub numbers : Memᴰ (number_in word) (0 ∷ 1 ∷ 2 ∷ 3 ∷ 4 ∷ 15 ∷ 5 ∷ 6 ∷ 7 ∷ 12 ∷ 20 ∷ 21 ∷ 22 ∷ [])
  -- Field c is at most 126: a name has at most 127 labels.
  pub c_small : field_c word ≤ 126
  -- Fields b and c are 0 except for 20, 21 and 22.
  pub c_unused : number_in word ≤ 19 → field_c word ≡ 0
  pub b_unused : number_in word ≤ 19 → field_b word ≡ 0
  -- Field a is 0 if the number is 0.
  pub a_unused : number_in word ≡ 0 → field_a word ≡ 0
  -- If no row holds, the request is its names in wire form, one after the other, and each is valid.
  pub names_read : NoneHolds (JudgeTable request issuer who book) →
      (request ≡ flatten (map wire (requested_names request))) × All GoodRequested (requested_names request)
  -- And the book is its records in wire form, one after the other, and each is valid.
  pub records_read : NoneHolds (JudgeTable request issuer who book) →
      (book ≡ flatten (map wire_record (records book))) × All GoodRecord (records book)

abbrev pub CaaJudgeFor : Type 0
CaaJudgeFor =
    (request issuer : List ℕ) (who : Applicant) (book : List ℕ) → Octets request → Octets book → JudgeWord request issuer who book (caa_judge_for request issuer who book)

-- The number is 31, and the first a octets of the buffer are b entries for the names ns: for each its length octet and its octets.
abbrev pub Lists : ℕ → List ℕ → List (List ℕ) → Type 0
Lists word after ns =
    (number_in word ≡ 31) × (field_a word ≤ length after) × (take (field_a word) after ≡ entries ns) × (length ns ≡ field_b word)

-- caa_permitted_issuers_for: who may issue for every name of the request? `after` is the buffer after the call.
pub record IssuersWord (request : List ℕ) (who : Applicant) (book buffer : List ℕ) (word : ℕ) (after : List ℕ) : Type 0 where
  -- Refusal n with place p in a: exactly when row n of the table holds with place p and no row before it in the order of checks holds.
  pub refused_exactly : (n p : ℕ) → 1 ≤ n → n ≤ 19 →
      ((number_in word ≡ n) × (field_a word ≡ p)) ↔ FirstToHold (ListTable request who book buffer) n p
  -- A refusal changes no octet of the buffer.
  pub refused_unchanged : number_in word ≤ 19 → after ≡ buffer
  -- 30, anyone: exactly when no row holds and no requested name is restricted.
  pub anyone_exactly :
      (number_in word ≡ 30)
      ↔ (NoneHolds (ListTable request who book buffer) × All (Unrestricted (as_book (records book))) (requested_names request))
  -- 30 changes no octet of the buffer.
  pub anyone_unchanged : number_in word ≡ 30 → after ≡ buffer
  -- After 30, caa_judge_for permits every well-formed issuer domain name.
  pub anyone_permitted : number_in word ≡ 30 → (d : List ℕ) → WellFormed d → number_in (caa_judge_for request d who book) ≡ 0
  -- 31, a list: exactly when no row holds and some requested name is restricted.
  pub listed_exactly :
      (number_in word ≡ 31)
      ↔ (NoneHolds (ListTable request who book buffer) × (All (Unrestricted (as_book (records book))) (requested_names request) → ⊥))
  -- The list can be read: b names in a octets at the start of the buffer.
  pub list_there : number_in word ≡ 31 → (ns : List (List ℕ)) × Lists word after ns
  -- Reading b entries, each a length octet and that many octets, gives these names and uses all a octets.
  pub list_read : (ns : List (List ℕ)) → Lists word after ns → items read_entry (field_b word) (take (field_a word) after) ≡ whole ns
  -- caa_judge_for permits a well-formed issuer domain name exactly when it is listed, ignoring case.
  pub permitted_exactly : (ns : List (List ℕ)) → Lists word after ns → (d : List ℕ) → WellFormed d →
      (number_in (caa_judge_for request d who book) ≡ 0) ↔ Memᴰ (lowered d) ns
  -- Every entry is a well-formed issuer domain name in lower case.
  pub well_formed : (ns : List (List ℕ)) → Lists word after ns → All (λ n. WellFormed n × (lowered n ≡ n)) ns
  -- No name is listed twice.
  pub none_twice : (ns : List (List ℕ)) → Lists word after ns → Distinct ns
  -- The names are in the order of the records that govern the restricted name with the lowest number.
  pub in_order : (ns : List (List ℕ)) → Lists word after ns → (k : ℕ) (n : Name) (gs : List CaaRecord) →
      LowestNot (Unrestricted (as_book (records book))) (requested_names request) k n →
      GoverningRecords (as_book (records book)) n gs → (a b : List ℕ) → Memᴰ a ns → Memᴰ b ns →
      Before a b ns ↔ GrantedBefore who gs a b
  -- The octets after the list are unchanged.
  pub rest_stays : number_in word ≡ 31 → drop (field_a word) after ≡ drop (field_a word) buffer
  -- The buffer keeps its length.
  pub length_stays : length after ≡ length buffer
  -- A buffer as long as the book is never refused with 8.
  pub book_length_enough : length book ≤ length buffer → number_in word ≢ 8
  -- After 8, a buffer of at least a octets gets the list, in exactly a octets.
  pub room_asked_enough : number_in word ≡ 8 → (other : List ℕ) → field_a word ≤ length other →
      (number_in (caa_permitted_issuers_for request who book other).word ≡ 31) × (field_a (caa_permitted_issuers_for request who book other).word ≡ field_a word)
  -- No other number is ever returned.
  pub numbers : Memᴰ (number_in word) (1 ∷ 2 ∷ 3 ∷ 15 ∷ 5 ∷ 6 ∷ 7 ∷ 12 ∷ 8 ∷ 30 ∷ 31 ∷ [])
  -- Field c is always 0.
  pub c_unused : field_c word ≡ 0
  -- Field b is 0 except for 31.
  pub b_unused : number_in word ≤ 30 → field_b word ≡ 0
  -- Field a is 0 if the number is 30.
  pub a_unused : number_in word ≡ 30 → field_a word ≡ 0

abbrev pub CaaPermittedIssuersFor : Type 0
CaaPermittedIssuersFor =
    (request : List ℕ) (who : Applicant) (book buffer : List ℕ) → Octets request → Octets book →
    IssuersWord request who book buffer (caa_permitted_issuers_for request who book buffer).word (caa_permitted_issuers_for request who book buffer).buffer

-- The number is 0, a is the length of x, and x is at the start of the buffer.
abbrev pub Outputs : Returned → List ℕ → Type 0
Outputs r x = (number_in r.word ≡ 0) × (field_a r.word ≡ length x) × (take (length x) r.buffer ≡ x)

-- The first a octets of the buffer.
abbrev pub front_of : Returned → List ℕ
front_of r = take (field_a r.word) r.buffer

-- caa_write_line: from CAA data d (flags, tag length, tag, value) to its line of text. `Writable d p`: d is the property p in wire form,
-- and its tag has only letters and digits. `line p` is its line.
pub record WriteLineWord (d buffer : List ℕ) (word : ℕ) (after : List ℕ) : Type 0 where
  -- 10: exactly when the data is over its limit of octets.
  pub too_long_exactly : (number_in word ≡ 10) ↔ (max_data_octets < length d)
  -- 11: exactly when it is within the limit and is not a writable property.
  pub bad_data_exactly : (number_in word ≡ 11) ↔ ((length d ≤ max_data_octets) × ((p : Property) → Writable d p → ⊥))
  -- 8 with n in a: exactly when the data is valid, its line takes n octets and the buffer has fewer.
  pub no_room_exactly : (n : ℕ) →
      ((number_in word ≡ 8) × (field_a word ≡ n))
      ↔ ((length d ≤ max_data_octets) × ((p : Property) × Writable d p × (length (line p) ≡ n) × (length buffer < n)))
  -- 0: exactly when the data is valid and its line fits the buffer.
  pub written_exactly :
      (number_in word ≡ 0) ↔ ((length d ≤ max_data_octets) × ((p : Property) × Writable d p × (length (line p) ≤ length buffer)))
  -- The line is then at the start of the buffer, with its length in a.
  pub line_there : number_in word ≡ 0 → (p : Property) → Writable d p → Outputs (record { word = word; buffer = after }) (line p)
  -- The octets after it are unchanged.
  pub rest_stays : number_in word ≡ 0 → drop (field_a word) after ≡ drop (field_a word) buffer
  -- The buffer keeps its length.
  pub length_stays : length after ≡ length buffer
  -- A refusal changes no octet of the buffer.
  pub refused_unchanged : number_in word ≢ 0 → after ≡ buffer
  -- caa_read_line reads that line as the same data with its tag in lower case, in any buffer that is long enough for it.
  pub reads_back : number_in word ≡ 0 → (p : Property) → Writable d p → (other : List ℕ) → length d ≤ length other →
      Outputs (caa_read_line (take (field_a word) after) other) (wire_property (small_tag p))
  -- A buffer as long as the limit of lines is never refused with 8.
  pub line_limit_enough : max_line_octets ≤ length buffer → number_in word ≢ 8
  -- No other number is ever returned.
  pub numbers : Memᴰ (number_in word) (0 ∷ 8 ∷ 10 ∷ 11 ∷ [])
  -- Fields b and c are always 0.
  pub c_unused : field_c word ≡ 0
  pub b_unused : field_b word ≡ 0
  -- Field a is 0 for 10 and 11.
  pub a_unused : 10 ≤ number_in word → field_a word ≡ 0

abbrev pub CaaWriteLine : Type 0
CaaWriteLine =
    (d buffer : List ℕ) → Octets d → WriteLineWord d buffer (caa_write_line d buffer).word (caa_write_line d buffer).buffer

-- caa_read_line: from a line of text s to CAA data. `LineOf p s`: the line stands for the property p. `wire_property p` is its data.
pub record ReadLineWord (s buffer : List ℕ) (word : ℕ) (after : List ℕ) : Type 0 where
  -- 10: exactly when the line is over its limit of octets, or its data is over the limit of data.
  pub too_long_exactly :
      (number_in word ≡ 10)
      ↔ ((max_line_octets < length s)
      ⊎ ((length s ≤ max_line_octets) × ((p : Property) × LineOf p s × (max_data_octets < length (wire_property p)))))
  -- 9: exactly when it is within the limit and stands for no data.
  pub bad_line_exactly : (number_in word ≡ 9) ↔ ((length s ≤ max_line_octets) × ((p : Property) → LineOf p s → ⊥))
  -- 8 with n in a: exactly when the line is valid, its data takes n octets and the buffer has fewer.
  pub no_room_exactly : (n : ℕ) →
      ((number_in word ≡ 8) × (field_a word ≡ n))
      ↔ ((length s ≤ max_line_octets)
      × ((p : Property) × LineOf p s × (length (wire_property p) ≤ max_data_octets) × (length (wire_property p) ≡ n) × (length buffer < n)))
  -- 0: exactly when the line is valid and its data fits the buffer.
  pub read_exactly :
      (number_in word ≡ 0)
      ↔ ((length s ≤ max_line_octets)
      × ((p : Property) × LineOf p s × (length (wire_property p) ≤ max_data_octets) × (length (wire_property p) ≤ length buffer)))
  -- The data is then at the start of the buffer, with the tag in the case of the line, and its length in a.
  pub data_there : number_in word ≡ 0 → (p : Property) → LineOf p s → Outputs (record { word = word; buffer = after }) (wire_property p)
  -- The octets after it are unchanged.
  pub rest_stays : number_in word ≡ 0 → drop (field_a word) after ≡ drop (field_a word) buffer
  -- The buffer keeps its length.
  pub length_stays : length after ≡ length buffer
  -- A refusal changes no octet of the buffer.
  pub refused_unchanged : number_in word ≢ 0 → after ≡ buffer
  -- caa_write_line writes that data as a line, in any buffer that is long enough for it.
  pub writes_again : number_in word ≡ 0 → (p : Property) → LineOf p s → (other : List ℕ) → length (line p) ≤ length other →
      Outputs (caa_write_line (take (field_a word) after) other) (line p)
  -- And caa_read_line reads what was written as the same data with its tag in lower case.
  pub reads_again : number_in word ≡ 0 → (p : Property) → LineOf p s → (first second : List ℕ) → length (line p) ≤ length first →
      field_a word ≤ length second →
      Outputs (caa_read_line (front_of (caa_write_line (take (field_a word) after) first)) second) (wire_property (small_tag p))
  -- A buffer as long as the limit of data is never refused with 8.
  pub data_limit_enough : max_data_octets ≤ length buffer → number_in word ≢ 8
  -- No other number is ever returned.
  pub numbers : Memᴰ (number_in word) (0 ∷ 8 ∷ 9 ∷ 10 ∷ [])
  -- Fields b and c are always 0.
  pub c_unused : field_c word ≡ 0
  pub b_unused : field_b word ≡ 0
  -- Field a is 0 for 9 and 10.
  pub a_unused : 9 ≤ number_in word → field_a word ≡ 0

abbrev pub CaaReadLine : Type 0
CaaReadLine = (s buffer : List ℕ) → Octets s → ReadLineWord s buffer (caa_read_line s buffer).word (caa_read_line s buffer).buffer
