-- By computing: the lines that the requirements print, and the line when there is a book.
use mathlib.Core.Path.{refl}
use mathlib.Core.List.{append_assoc}
use Rattle.spec_limits.specs.Limits.{max_names, max_records}
use Rattle.spec_refusal.specs.Refusal.{number, place}
use Rattle.spec_octets.specs.WrittenDecimal.{decimal}
use Rattle.spec_desk.specs.Lines.{answer_text, desk_line}
use Rattle.spec_desk.specs.Pinned.{Judged}
use Rattle.spec_desk.specs.Theorems.{LineWords, LineExamples}

pub line_words : LineWords
unfolding answer_text
line_words = (λ k r u. simp append_assoc, λ k r u. simp append_assoc, λ k r u. simp append_assoc, λ r. simp append_assoc)

pub line_examples : LineExamples
unfolding answer_text decimal number place desk_line max_names max_records
line_examples = (refl, refl, refl, refl, refl, refl, refl, refl, refl, refl, refl, refl, λ request issuer who book. refl)

pub judged : Judged
unfolding desk_line
judged request issuer who book = refl
