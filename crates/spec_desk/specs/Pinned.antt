-- An equation that restates a definition, so that it can't change unnoticed. It is proved under its name in proofs/.
use Rattle.std.specs.Prelude.{ℕ, ◌≡◌, true, List}
use Rattle.spec_applicant.specs.Applicant.{Applicant}
use Rattle.spec_rule.specs.Calls.{judge}
use Rattle.spec_desk.specs.Lines.{judgement_line, desk_line}

-- With a book, the line is that of the judgement.
abbrev pub Judged : Type 0
Judged =
    (request issuer : List ℕ) (who : Applicant) (book : List ℕ) →
    desk_line true request issuer who book ≡ judgement_line (judge request issuer who book)
