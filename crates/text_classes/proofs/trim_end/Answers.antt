-- `text_classes::trim_end` meets its contract. The loop's invariant: trimming what is left gives the same as trimming s.
use Rattle.std.proofs.Common.{rules}
use Rattle.text_classes.proofs.TrimWalk.{end_turn, end_stop}
use Rattle.text_classes.proofs.trim_end.Goals as goal

pub loop-t-preserved : goal.loop-t-preserved
loop-t-preserved c = search (rules, end_turn)

pub returns-else-is_blank : goal.returns-else-is_blank
returns-else-is_blank c = search (rules, end_stop)
