-- `put_list` meets its contract.
use borrow.Author.Rules.{rules}
use Rattle.list_call.proofs.CallWays.{halves, anyone_may, no_room, names_listed}
use Rattle.list_call.proofs.put_list.Goals as goal

pub returns-in_default : goal.returns-in_default
returns-in_default c = λ who request k. halves _ _ _ _ (anyone_may _ _ _ _ _ who request k (search rules))

pub returns-then-buffer-size : goal.returns-then-buffer-size
returns-then-buffer-size c =
    λ who request k. halves _ _ _ _ (no_room _ _ _ _ _ who request k _ c.in-Some.is _ c.put_entries-size.ensures.answer _ c.put_entries-size.ensures.octets (search rules) c.if-buffer-size.true)

pub returns : goal.returns
returns c =
    λ who request k. halves _ _ _ _ (names_listed _ _ _ _ _ who request k _ c.in-Some.is _ c.put_entries-size.ensures.answer _ c.put_entries-size.ensures.octets (search rules) c.if-buffer-size.false)
