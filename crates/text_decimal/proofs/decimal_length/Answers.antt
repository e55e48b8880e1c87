-- `decimal_length` meets its contract. The loop's invariant: `count` and the digits of `left` together are one more than the digits of n.
use borrow.Author.Rules.{rules}
use Rattle.text_decimal.proofs.DecimalPieces.{count_fits, count_turn, count_end}
use Rattle.text_decimal.proofs.decimal_length.Goals as goal

pub overflow_add-count : goal.overflow_add-count
overflow_add-count c = search (rules, count_fits)

pub loop-left-preserved : goal.loop-left-preserved
loop-left-preserved c = search (rules, count_turn)

pub returns : goal.returns
returns c = search (rules, count_end)
