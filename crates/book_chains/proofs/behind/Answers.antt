-- `behind` meets its contract.
use native.Mathlib.Omega.{arith}
use borrow.Author.Rules.{rules}
use Rattle.book_chains.proofs.Onward.{no_link, not_later, later}
use Rattle.book_chains.proofs.behind.Goals as goal

pub returns-then-end-i : goal.returns-then-end-i
returns-then-end-i c = search (rules, no_link)

pub overflow_cast-next : goal.overflow_cast-next
overflow_cast-next c = omega (arith, c.shared_slice_known-1.given c.args.i)

pub returns-then-next-i : goal.returns-then-next-i
returns-then-next-i c = search (rules, not_later)

pub returns : goal.returns
returns c = search (rules, later)
