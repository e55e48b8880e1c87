-- What the definitions of this crate mean. Each statement is proved under its name in proofs/.
use Rattle.std.specs.Prelude.{ℕ, ◌≡◌, List, Ok, Err}
use Rattle.spec_refusal.specs.declared.Refusal.TheVariants.{RequestTooLong, BadName, TooManyNames, BadIssuer, BookTooLong, BadRecord, TooManyRecords, NoRoom, BadLine, LineTooLong, BadData, AliasConflict}
use Rattle.spec_packed.specs.Packed.{number_in, field_a, field_b, field_c}
use Rattle.spec_line.specs.Calls.{write_line, parse_line}
use Rattle.spec_octets.specs.Octets.{Octets}
use Rattle.spec_applicant.specs.Applicant.{Applicant}
use Rattle.spec_rule.specs.declared.Judgement.TheVariants.{Permitted, UnknownCritical, NotGranted, TooManyAliases, Refused}
use Rattle.spec_rule.specs.declared.PermittedIssuers.TheVariants.{Anyone, Listed, Refused as ListRefused}
use Rattle.spec_rule.specs.Verdicts.{denial}
use Rattle.spec_rule.specs.Calls.{AnswerCode, judge, judgement_code, list_issuers, permitted_issuers_code}
use Rattle.spec_answers.specs.Answers.{value_of, packed_judgement}
use Rattle.spec_answers.specs.ListAnswers.{packed_issuers}
use Rattle.spec_answers.specs.LineAnswers.{line_code, packed_line}

-- Unpacking x gives the number and the values of the answer t, at most three of them.
abbrev pub Unpacked : ℕ → AnswerCode → Type 0
Unpacked x t = (number_in x ≡ t.number) × (field_a x ≡ value_of t 0) × (field_b x ≡ value_of t 1) × (field_c x ≡ value_of t 2)

-- For every input of the call that judges.
abbrev pub JudgementUnpacks : Type 0
JudgementUnpacks =
    (request issuer : List ℕ) (who : Applicant) (book : List ℕ) →
    Unpacked (packed_judgement (judge request issuer who book)) (judgement_code (judge request issuer who book))

-- For every input of the call that lists: octets in a, count in b.
abbrev pub ListUnpacks : Type 0
ListUnpacks =
    (request : List ℕ) (who : Applicant) (book buffer : List ℕ) → Octets book →
    Unpacked (packed_issuers (list_issuers request who book buffer).answer) (permitted_issuers_code (list_issuers request who book buffer).answer)

-- For every input of the two calls on lines, which answer with a length or a refusal.
abbrev pub WrittenLineUnpacks : Type 0
WrittenLineUnpacks =
    (d buffer : List ℕ) → Octets d → Unpacked (packed_line (write_line d buffer).answer) (line_code (write_line d buffer).answer)

abbrev pub ReadLineUnpacks : Type 0
ReadLineUnpacks = (s buffer : List ℕ) → Unpacked (packed_line (parse_line s buffer).answer) (line_code (parse_line s buffer).answer)

-- Packed answers, worked out by hand: the number, plus the place or the first value times 256, plus the second value times 4294967296, plus
-- the third value times 281474976710656. Names 7, 2, 1 and 3, records 4, 6, 5, 3 and 1, 3, 0, 1 and 2 labels taken off, 32 octets, a list of 2
-- names in 32 octets, a line of 36 octets.
abbrev pub PackedAnswers : Type 0
PackedAnswers =
    (packed_judgement Permitted ≡ 0)
    × (packed_judgement (Refused RequestTooLong) ≡ 1)
    × (packed_judgement (Refused (BadName (record { 0 = 7 }))) ≡ 1794)
    × (packed_judgement (Refused TooManyNames) ≡ 64003)
    × (packed_judgement (Refused BadIssuer) ≡ 4)
    × (packed_judgement (Refused BookTooLong) ≡ 5)
    × (packed_judgement (Refused (BadRecord (record { 0 = 4 }))) ≡ 1030)
    × (packed_judgement (Refused TooManyRecords) ≡ 262151)
    × (packed_judgement (Refused (AliasConflict (record { 0 = 6 }))) ≡ 1548)
    × (packed_judgement (UnknownCritical (denial 2 5 3)) ≡ 844446404968980)
    × (packed_judgement (NotGranted (denial 1 3 0)) ≡ 12884902165)
    × (packed_judgement (NotGranted (denial 1 3 1)) ≡ 281487861612821)
    × (packed_judgement (TooManyAliases (denial 3 1 2)) ≡ 562954248389398)
    × (packed_issuers (ListRefused (BadName (record { 0 = 7 }))) ≡ 1794)
    × (packed_issuers (ListRefused (AliasConflict (record { 0 = 6 }))) ≡ 1548)
    × (packed_issuers (ListRefused (NoRoom 32)) ≡ 8200)
    × (packed_issuers Anyone ≡ 30)
    × (packed_issuers (Listed 2 32) ≡ 8589942815)
    × (packed_line (Ok 36) ≡ 9216)
    × (packed_line (Err (NoRoom 32)) ≡ 8200)
    × (packed_line (Err BadLine) ≡ 9)
    × (packed_line (Err LineTooLong) ≡ 10)
    × (packed_line (Err BadData) ≡ 11)

-- An answer is packed as the word x. Taken apart again, x gives the number n and the fields a, b and c.
abbrev pub PackedWith : ℕ → ℕ → ℕ → ℕ → ℕ → ℕ → Type 0
PackedWith answer x n a b c = (answer ≡ x) × (number_in x ≡ n) × (field_a x ≡ a) × (field_b x ≡ b) × (field_c x ≡ c)

-- The same with 0 in field c.
abbrev pub PackedAs : ℕ → ℕ → ℕ → ℕ → ℕ → Type 0
PackedAs answer x n a b = PackedWith answer x n a b 0

-- No field cuts off a number that the limits allow. The largest ones, worked out by hand: name 249, record 1,023, 126 labels taken off, the
-- places 250 and 1,024, a list of 1,024 names, 49,152 octets of a list, 16,384 octets of a line.
abbrev pub LargestAnswers : Type 0
LargestAnswers =
    PackedWith (packed_judgement (UnknownCritical (denial 249 1023 126))) 35470240817150228 20 249 1023 126
    × PackedWith (packed_judgement (NotGranted (denial 249 1023 126))) 35470240817150229 21 249 1023 126
    × PackedWith (packed_judgement (TooManyAliases (denial 249 1023 126))) 35470240817150230 22 249 1023 126
    × PackedAs (packed_judgement (Refused (BadName (record { 0 = 249 })))) 63746 2 249 0
    × PackedAs (packed_judgement (Refused TooManyNames)) 64003 3 250 0
    × PackedAs (packed_judgement (Refused (BadRecord (record { 0 = 1023 })))) 261894 6 1023 0
    × PackedAs (packed_judgement (Refused TooManyRecords)) 262151 7 1024 0
    × PackedAs (packed_judgement (Refused (AliasConflict (record { 0 = 1023 })))) 261900 12 1023 0
    × PackedAs (packed_issuers (Listed 1024 49152)) 4398059094047 31 49152 1024
    × PackedAs (packed_issuers (ListRefused (NoRoom 49152))) 12582920 8 49152 0
    × PackedAs (packed_line (Ok 16384)) 4194304 0 16384 0
    × PackedAs (packed_line (Err (NoRoom 16384))) 4194312 8 16384 0
