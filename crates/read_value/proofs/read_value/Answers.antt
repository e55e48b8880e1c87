-- `read_value` meets its contract, with a semicolon (the parameters were tested) and without one.
use mathlib.Core.Path.{sym}
use mathlib.Core.Logic.{⊎_elim}
use lib.Seq.{length-take-le}
use borrow.Author.Rules.{rules}
use borrow.Author.Tests.{not-true, not-false}
use Rattle.text_labels.proofs.PieceWalk.{piece_within}
use Rattle.read_value.proofs.ValueTests.{name_alone, name_first, parameters_bad}
use Rattle.read_value.proofs.read_value.Goals as goal

pub returns-then-not-are_parameters : goal.returns-then-not-are_parameters
returns-then-not-are_parameters c = search (rules, parameters_bad, not-true)

pub slice_bounds-read_name-end : goal.slice_bounds-read_name-end
slice_bounds-read_name-end c = sym (search (rules, length-take-le, piece_within))

pub returns : goal.returns
returns c = ⊎_elim (λ w. search (rules, name_first, not-false)) (λ w. search (rules, name_alone)) c.if-e-s.branch-raw
