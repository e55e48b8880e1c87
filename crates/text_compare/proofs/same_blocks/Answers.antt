-- `same_blocks` meets its contract. The loop's invariant: the texts are the same exactly when the remaining octets are.
use borrow.Author.Tests.{not-true, not-false}
use borrow.Author.Rules.{rules}
use Rattle.text_compare.proofs.TextWalk.{part_differs, part_lengths, block_turn, blocks_end}
use Rattle.text_compare.proofs.same_blocks.Goals as goal

pub same_at_once-requires : goal.same_at_once-requires
same_at_once-requires c = search (rules, part_lengths)

pub returns-then-not-same_at_once : goal.returns-then-not-same_at_once
returns-then-not-same_at_once c = search (rules, part_differs, not-true)

pub same_at_once-requires-in-loop-from : goal.same_at_once-requires-in-loop-from
same_at_once-requires-in-loop-from c = search (rules, part_lengths)

pub returns-then-not-same_at_once-2 : goal.returns-then-not-same_at_once-2
returns-then-not-same_at_once-2 c = search (rules, part_differs, not-true)

pub loop-from-preserved : goal.loop-from-preserved
loop-from-preserved c = search (rules, block_turn, not-false)

pub returns : goal.returns
returns c = search (rules, blocks_end, not-false)
