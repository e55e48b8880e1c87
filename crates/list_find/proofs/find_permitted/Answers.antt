-- `find_permitted` meets its contract.
use mathlib.Core.Path.{refl}
use borrow.Author.Rules.{rules}
use Rattle.spec_limits.specs.Limits.{max_names}
use Rattle.list_find.proofs.FoundWays.{parts, nobody_found, noted_few, noted_part, all_found}
use Rattle.list_find.proofs.find_permitted.Goals as goal

pub returns-in_default : goal.returns-in_default
unfolding max_names
returns-in_default c =
    parts _ _ _ _ _ _ _ _ _ (nobody_found _ _ _ _ _ _ _ _ _ _ refl _ _ c.note_questions.ensures.answer c.note_questions.ensures.numbers (search rules))

pub slice_bounds-numbers-end : goal.slice_bounds-numbers-end
unfolding max_names
slice_bounds-numbers-end c =
    noted_few _ _ _ _ c.note_questions.ensures.answer c.note_questions.ensures.numbers _ c.in-Some.is

pub slice_bounds-ask_once-end : goal.slice_bounds-ask_once-end
unfolding max_names
slice_bounds-ask_once-end c =
    noted_part _ _ _ _ c.note_questions.ensures.answer c.note_questions.ensures.numbers _ c.in-Some.is

pub returns : goal.returns
unfolding max_names
returns c =
    parts _ _ _ _ _ _ _ _ _ (all_found _ _ _ _ _ _ _ _ _ _ refl _ _ c.note_questions.ensures.answer c.note_questions.ensures.numbers _ c.in-Some.is _ c.ask_once-n.ensures.answer _ c.ask_once-n.ensures.numbers _ _ _ c.ask_sets.ensures.answer c.ask_sets.ensures.names c.ask_sets.ensures.rounds)
