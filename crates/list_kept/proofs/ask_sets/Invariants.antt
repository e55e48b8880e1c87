-- `ask_sets` meets its contract. The loop's invariant: the questions that are left give the same answer in the end.
use Rattle.spec_applicant.specs.Applicants.{texts}
use Rattle.list_kept.proofs.AskedLoop.{Asking}
use Rattle.list_kept.proofs.ask_sets.Given as goal

abbrev pub invariant-loop-number : goal.invariant-loop-number
invariant-loop-number l =
    Asking (texts l.applicant) l.index.book.now l.index.table.now l.index.links.now l.numbers l.initial.names l.initial.rounds l.names l.rounds l.permitted l.number-index
