-- `keep_granted` meets its contract.
use borrow.Author.Rules.{rules}
use Rattle.list_kept.proofs.AskedLoop.{kept_parts, first_governs, further_governs}
use Rattle.list_kept.proofs.keep_granted.Goals as goal

pub returns-in-None : goal.returns-in-None
returns-in-None c = kept_parts _ _ _ _ _ _ _ _ (search (rules, first_governs))

pub returns-in-Some : goal.returns-in-Some
returns-in-Some c = kept_parts _ _ _ _ _ _ _ _ (search (rules, further_governs))
