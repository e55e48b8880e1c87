-- `piece_end` meets its contract. The loop's invariant: the piece ends where what is left of it ends.
use Rattle.std.proofs.Common.{◌≡◌}
use Rattle.text_labels.specs.Places.{piece_end}
use Rattle.text_labels.proofs.piece_end.Given as goal

abbrev pub invariant-loop-e : goal.invariant-loop-e
invariant-loop-e l = piece_end l.c l.s l.at ≡ piece_end l.c l.s l.e
