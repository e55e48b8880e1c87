-- `name_above` meets its contract.
use borrow.Author.Rules.{rules}
use Rattle.session_kept.proofs.NamesAbove.{no_name, more_octets, at_root, at_name}
use Rattle.session_kept.proofs.name_above.Goals as goal

pub returns-in_err-n : goal.returns-in_err-n
returns-in_err-n c = search (rules, no_name)

pub returns-then-n-name : goal.returns-then-n-name
returns-then-n-name c = search (rules, more_octets)

pub returns-in_err-p : goal.returns-in_err-p
returns-in_err-p c = search (rules, at_root c.args.name.now c.args.up c.requested_name.result c.requested_name.ensures)

pub returns : goal.returns
returns c = at_name c.args.name.now c.args.up c.requested_name.result c.requested_name.ensures c.in_ok-n.n (search rules) (search rules) c.label_above.result c.label_above.ensures c.in_ok-p.p (search rules)
