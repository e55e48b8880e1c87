-- `text_classes::all_of` meets its contract. The loop's invariant: all octets are in the class exactly when the remaining ones are.
use Rattle.std.proofs.Common.{rules, sym}
use Rattle.spec_octets.proofs.Walks.{all_turn, all_stop, all_end}
use Rattle.text_classes.proofs.all_of.Goals as goal

pub returns-then-not-is_in : goal.returns-then-not-is_in
returns-then-not-is_in c = sym (search (rules, all_stop))

pub loop-b-preserved : goal.loop-b-preserved
loop-b-preserved c = search (rules, all_turn)

pub returns : goal.returns
returns c = sym (search (rules, all_end))
