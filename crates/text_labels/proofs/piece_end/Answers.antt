-- `piece_end` meets its contract. The loop's invariant: the piece ends where what is left of it ends.
use Rattle.std.proofs.Common.{rules, refl}
use Rattle.text_labels.proofs.PieceEnds.{piece_turn, piece_stop, piece_last}
use Rattle.text_labels.proofs.piece_end.Goals as goal

pub returns-then-s-at : goal.returns-then-s-at
returns-then-s-at c = piece_last _ _ _ _ refl (search rules)

pub returns-then-s-e : goal.returns-then-s-e
returns-then-s-e c = search (rules, piece_stop)

pub loop-e-preserved : goal.loop-e-preserved
loop-e-preserved c = search (rules, piece_turn)

pub returns : goal.returns
returns c = search (rules, piece_last)
