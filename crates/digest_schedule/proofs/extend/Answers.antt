-- `extend` meets its contract. The loop's invariant: the words before t are made, and what is left gives the same words.
use Rattle.std.proofs.Common.{rules}
use Rattle.spec_digest.proofs.RoundLaws.{extended_start}
use Rattle.digest_schedule.proofs.ScheduleSteps.{word_turn, words_end}
use Rattle.digest_schedule.proofs.extend.Goals as goal

pub loop-t-init : goal.loop-t-init
loop-t-init g c = search (rules, extended_start)

pub loop-t-preserved : goal.loop-t-preserved
loop-t-preserved g c = search (rules, word_turn)

pub returns : goal.returns
returns g c = search (rules, words_end)
