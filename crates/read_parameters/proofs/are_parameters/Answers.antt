-- `are_parameters` meets its contract. The loop's invariant: all pieces are parameters exactly when the remaining ones are.
use borrow.Author.Rules.{rules}
use borrow.Author.Tests.{not-true, not-false}
use Rattle.text_labels.proofs.PieceWalk.{piece_from, piece_within, pieces_less, pieces_turn, pieces_end, pieces_stop}
use Rattle.read_parameters.proofs.ParameterTests.{only_blanks, by_pieces}
use Rattle.read_parameters.proofs.are_parameters.Goals as goal

pub returns-then-all_of : goal.returns-then-all_of
returns-then-all_of c = search (rules, only_blanks)

pub slice_bounds-is_parameter-count : goal.slice_bounds-is_parameter-count
slice_bounds-is_parameter-count c = search (rules, piece_from)

pub slice_bounds-is_parameter-start : goal.slice_bounds-is_parameter-start
slice_bounds-is_parameter-start c = search (rules, piece_from)

pub slice_bounds-is_parameter-end : goal.slice_bounds-is_parameter-end
slice_bounds-is_parameter-end c = search (rules, piece_within)

pub returns-then-not-is_parameter : goal.returns-then-not-is_parameter
returns-then-not-is_parameter c = search (rules, by_pieces, pieces_stop, not-true)

pub returns-then-s-e : goal.returns-then-s-e
returns-then-s-e c = search (rules, by_pieces, pieces_end, not-true, not-false)

pub loop-at-smaller : goal.loop-at-smaller
loop-at-smaller c = search (rules, pieces_less)

pub loop-at-preserved : goal.loop-at-preserved
loop-at-preserved c = search (rules, pieces_turn, not-false)
