-- `is_parameter` meets its contract.
use mathlib.Core.Path.{sym}
use lib.Seq.{length-take-le}
use borrow.Author.Rules.{rules}
use borrow.Author.Tests.{not-true, not-false}
use Rattle.text_labels.proofs.PieceWalk.{piece_within}
use Rattle.read_parameters.proofs.ParameterTests.{no_equals, bad_tag, by_value}
use Rattle.read_parameters.proofs.is_parameter.Goals as goal

pub returns-then-p-e : goal.returns-then-p-e
returns-then-p-e c = search (rules, no_equals)

pub slice_bounds-trim_end-end : goal.slice_bounds-trim_end-end
slice_bounds-trim_end-end c = sym (search (rules, length-take-le, piece_within))

pub returns-then-not-is_label : goal.returns-then-not-is_label
returns-then-not-is_label c = search (rules, bad_tag, not-true)

pub returns : goal.returns
returns c = search (rules, by_value, not-false)
