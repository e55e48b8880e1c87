-- `push_candidate` meets its contract.
use native.Mathlib.Omega.{arith}
use lib.ListN.{length-set}
use Rattle.list_candidate.proofs.CandidateWays.{no_more, no_change, one_more_lem, one_written}
use borrow.Author.Rules.{rules}
use Rattle.list_candidate.proofs.push_candidate.Goals as goal

pub returns-then-names-count : goal.returns-then-names-count
returns-then-names-count c = record { answer = search (rules, no_more); numbers = search (rules, no_change) }

pub bounds-names-at-2 : goal.bounds-names-at-2
bounds-names-at-2 c = simp length-set (omega arith)

pub returns : goal.returns
returns c = record { answer = search (rules, one_more_lem); numbers = search (rules, one_written) }
