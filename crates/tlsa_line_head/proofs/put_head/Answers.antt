-- `put_head` meets its contract.
use borrow.Author.Rules.{rules}
use Rattle.tlsa_line_head.proofs.HeadParts.{no_head_answer, no_head_octets, head_room, head_answer, head_octets}
use Rattle.tlsa_line_head.proofs.put_head.Goals as goal

pub returns-then-out-n : goal.returns-then-out-n
returns-then-out-n c = search (rules, no_head_answer, no_head_octets)

pub put_three-requires : goal.put_three-requires
put_three-requires c = search (rules, head_room)

pub returns : goal.returns
returns c = search (rules, head_answer, head_octets)
