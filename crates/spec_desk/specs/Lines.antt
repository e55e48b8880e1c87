-- The line that the desk program prints. (The desk is the customer's certificate desk, which runs the program.)
use Rattle.std.specs.Prelude.{ℕ, Bool, cond, List, [], ◌∷◌, ◌++◌}
use Rattle.spec_octets.specs.Octets.{text}
use Rattle.spec_refusal.specs.Refusal.{number, place}
use Rattle.spec_applicant.specs.Applicant.{Applicant}
use Rattle.spec_rule.specs.declared.Denial.{Denial}
use Rattle.spec_rule.specs.declared.Judgement.{Judgement}
use Rattle.spec_rule.specs.declared.Judgement.TheVariants.{Permitted, UnknownCritical, NotGranted, TooManyAliases, Refused}
use Rattle.spec_rule.specs.Calls.{judge}
use Rattle.spec_octets.specs.WrittenDecimal.{decimal}

abbrev pub line_end : ℕ
line_end = 10

-- A text, a number, a text, a number.
abbrev pub numbered : List ℕ → ℕ → List ℕ → ℕ → List ℕ
numbered first a second b = first ++ decimal a ++ second ++ decimal b

abbrev pub denial_text : List ℕ → Denial → List ℕ
denial_text first d = numbered first d.name.0 (text " record ") d.rr.0 ++ text " up " ++ decimal d.up.0

-- The words of an answer, without the line end.
unfoldable pub answer_text : Judgement → List ℕ
answer_text Permitted = text "verdict 0"
answer_text (UnknownCritical d) = denial_text (text "verdict 20 name ") d
answer_text (NotGranted d) = denial_text (text "verdict 21 name ") d
answer_text (TooManyAliases d) = denial_text (text "verdict 22 name ") d
answer_text (Refused r) = numbered (text "refused ") (number r) (text " at ") (place r)

abbrev pub judgement_line : Judgement → List ℕ
judgement_line j = answer_text j ++ (line_end ∷ [])

abbrev pub no_book : List ℕ
no_book = text "no book" ++ (line_end ∷ [])

-- "without book.bin the line is `no book`, whatever the others hold"
unfoldable pub desk_line : Bool → List ℕ → List ℕ → Applicant → List ℕ → List ℕ
desk_line found request issuer who book = cond found (judgement_line (judge request issuer who book)) no_book
