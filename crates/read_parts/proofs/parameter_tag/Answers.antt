-- `parameter_tag` meets its contract.
use mathlib.Core.Path.{sym}
use lib.Seq.{length-take-le}
use borrow.Author.Rules.{rules}
use Rattle.text_labels.proofs.PieceWalk.{piece_within}
use Rattle.read_parts.proofs.PartTests.{tag_found}
use Rattle.read_parts.proofs.parameter_tag.Goals as goal

pub slice_bounds-trim_end-end : goal.slice_bounds-trim_end-end
slice_bounds-trim_end-end c = sym (search (rules, length-take-le, piece_within))

pub returns : goal.returns
returns c = search (rules, tag_found)
