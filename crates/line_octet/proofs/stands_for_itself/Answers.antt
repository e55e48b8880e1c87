-- `stands_for_itself` meets its contract, case by case of the style.
use borrow.Author.Rules.{rules}
use Rattle.line_octet.proofs.stands_for_itself.Goals as goal

pub returns-in-Quoted : goal.returns-in-Quoted
returns-in-Quoted c = rw c.in-Quoted.is (search rules)

pub returns-in-Bare : goal.returns-in-Bare
returns-in-Bare c = rw c.in-Bare.is (search rules)
