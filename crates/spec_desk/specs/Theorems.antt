-- What the definitions of this crate mean. Each statement is proved under its name in proofs/.
use Rattle.std.specs.Prelude.{ℕ, ◌≡◌, ◌↔◌, Bool, true, false, List, [], ◌∷◌, ◌++◌, map}
use Prim.Native.Char.{code}
use Rattle.spec_octets.specs.Lists.{select, begins}
use Rattle.spec_octets.specs.Octets.{text, is_digit}
use Rattle.spec_octets.specs.Decimal.{decimal_from}
use Rattle.spec_octets.specs.Pieces.{split}
use Rattle.spec_octets.specs.WrittenDecimal.{decimal}
use Rattle.spec_refusal.specs.Refusal.{number, place}
use Rattle.spec_refusal.specs.declared.Refusal.{Refusal}
use Rattle.spec_refusal.specs.declared.Refusal.TheVariants.{TooManyNames, BadIssuer, BadRecord, TooManyRecords, AliasConflict, BadAccountOrMethod}
use Rattle.spec_applicant.specs.Applicant.{Applicant}
use Rattle.spec_applicant.specs.AdmissionEdges.{someone}
use Rattle.spec_rule.specs.declared.Judgement.{Judgement}
use Rattle.spec_rule.specs.declared.Judgement.TheVariants.{Permitted, UnknownCritical, NotGranted, TooManyAliases, Refused}
use Rattle.spec_rule.specs.Edges.{ca1, ca2, whole_book}
use Rattle.spec_rule.specs.CallEdges.{both, book_of, circular, conflicting}
use Rattle.spec_rule.specs.Verdicts.{denial}
use Rattle.spec_rule.specs.Calls.{judgement_code}
use Rattle.spec_desk.specs.Lines.{answer_text, judgement_line, no_book, desk_line}

-- The numbers among the words of a text.
abbrev pub numbers_in : List ℕ → List ℕ
numbers_in s = map (decimal_from 0) (select (begins is_digit) (split (code " ") s))

-- The numbers in an answer's text are the answer's number and its values, in this order.
abbrev pub TextTells : Type 0
TextTells = (j : Judgement) → numbers_in (answer_text j) ≡ (judgement_code j).number ∷ (judgement_code j).values

-- So different answers have different lines.
abbrev pub LinesDiffer : Type 0
LinesDiffer = (i j : Judgement) → judgement_line i ≡ judgement_line j → i ≡ j

-- The line is `no book` exactly when there is no book.
abbrev pub NoBook : Type 0
NoBook =
    (found : Bool) (request issuer : List ℕ) (who : Applicant) (book : List ℕ) → (desk_line found request issuer who book ≡ no_book) ↔ (found ≡ false)

-- The words around the numbers, for all numbers.
abbrev pub LineWords : Type 0
LineWords =
    ((k r u : ℕ) → judgement_line (UnknownCritical (denial k r u))
    ≡ text "verdict 20 name " ++ decimal k ++ text " record " ++ decimal r ++ text " up " ++ decimal u ++ text "\n")
    × ((k r u : ℕ) → judgement_line (NotGranted (denial k r u))
    ≡ text "verdict 21 name " ++ decimal k ++ text " record " ++ decimal r ++ text " up " ++ decimal u ++ text "\n")
    × ((k r u : ℕ) → judgement_line (TooManyAliases (denial k r u))
    ≡ text "verdict 22 name " ++ decimal k ++ text " record " ++ decimal r ++ text " up " ++ decimal u ++ text "\n")
    × ((r : Refusal) → judgement_line (Refused r) ≡ text "refused " ++ decimal (number r) ++ text " at " ++ decimal (place r) ++ text "\n")

-- The lines that the requirements print, and some more.
abbrev pub LineExamples : Type 0
LineExamples =
    (judgement_line Permitted ≡ text "verdict 0\n")
    × (judgement_line (NotGranted (denial 1 3 0)) ≡ text "verdict 21 name 1 record 3 up 0\n")
    × (judgement_line (UnknownCritical (denial 0 2 1)) ≡ text "verdict 20 name 0 record 2 up 1\n")
    × (judgement_line (UnknownCritical (denial 99 255 10)) ≡ text "verdict 20 name 99 record 255 up 10\n")
    × (judgement_line (TooManyAliases (denial 3 1 2)) ≡ text "verdict 22 name 3 record 1 up 2\n")
    × (judgement_line (NotGranted (denial 249 1023 126)) ≡ text "verdict 21 name 249 record 1023 up 126\n")
    × (judgement_line (Refused (BadRecord (record { 0 = 4 }))) ≡ text "refused 6 at 4\n")
    × (judgement_line (Refused BadIssuer) ≡ text "refused 4 at 0\n")
    × (judgement_line (Refused TooManyNames) ≡ text "refused 3 at 250\n")
    × (judgement_line (Refused TooManyRecords) ≡ text "refused 7 at 1024\n")
    × (judgement_line (Refused (AliasConflict (record { 0 = 3 }))) ≡ text "refused 12 at 3\n")
    × (judgement_line (Refused BadAccountOrMethod) ≡ text "refused 15 at 0\n")
    × ((request issuer : List ℕ) (who : Applicant) (book : List ℕ) → desk_line false request issuer who book ≡ text "no book\n")

-- Lines from the contents of the files: the requirements' whole case, a permitted request, one refusal for each file, two books with aliases, and
-- no book. A file that is missing counts as empty.
abbrev pub DeskLines : Type 0
DeskLines =
    (desk_line true both ca1 someone (book_of whole_book) ≡ text "verdict 21 name 1 record 3 up 0\n")
    × (desk_line true both ca2 someone (book_of whole_book) ≡ text "verdict 0\n")
    × (desk_line true [] ca1 someone (book_of whole_book) ≡ text "refused 2 at 0\n")
    × (desk_line true both (ca1 ++ text "\n") someone (book_of whole_book) ≡ text "refused 4 at 0\n")
    × (desk_line true both ca1 (record { account = []; method = text "dns-01" }) (book_of whole_book) ≡ text "refused 15 at 0\n")
    × (desk_line true both ca1 (record { account = text "https://a/1"; method = text "dns-01\n" }) (book_of whole_book) ≡ text "refused 15 at 0\n")
    × (desk_line true both ca1 someone (book_of whole_book ++ (64 ∷ [])) ≡ text "refused 6 at 4\n")
    × (desk_line true both ca1 someone conflicting ≡ text "refused 12 at 2\n")
    × (desk_line true both ca1 someone circular ≡ text "verdict 22 name 1 record 1 up 0\n")
    × (desk_line true both ca2 someone circular ≡ text "verdict 21 name 0 record 0 up 1\n")
    × (desk_line false both ca1 someone (book_of whole_book) ≡ text "no book\n")
    × (desk_line false both ca1 (record { account = []; method = [] }) [] ≡ text "no book\n")
