-- `candidate_at` meets its contract.
use Prim.Native.Nat.{◌+◌, ◌*◌}
use native.Mathlib.Omega.{arith}
use Rattle.list_candidate.proofs.CandidateWays.{no_candidate, candidate_there}
use borrow.Author.Rules.{rules}
use Rattle.list_candidate.proofs.candidate_at.Goals as goal

pub returns-then-names-i : goal.returns-then-names-i
returns-then-names-i c = search (rules, no_candidate)

pub overflow_cast-n : goal.overflow_cast-n
overflow_cast-n c = omega (arith, c.shared_slice_known-3-1.given (2 * c.args.i + 1))

pub overflow_cast-names : goal.overflow_cast-names
overflow_cast-names c = omega (arith, c.shared_slice_known-4-1.given (2 * c.args.i))

pub returns : goal.returns
returns c = search (rules, candidate_there)
