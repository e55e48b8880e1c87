-- `is_label` meets its contract.
use Rattle.std.proofs.Common.{rules}
use Rattle.text_labels.proofs.LabelTests.{empty_no_label, first_no_label, last_no_label, label_by_octets}
use Rattle.text_labels.proofs.is_label.Goals.{then-is_empty-via-then-is_empty, then-is_empty-via-else-is_empty+then-l-eq45, then-is_empty-via-else-is_empty+else-l-eq45+then-l-eq45-2}
use Rattle.text_labels.proofs.is_label.Goals as goal

pub returns-then-is_empty : goal.returns-then-is_empty
returns-then-is_empty c = elim c.then-is_empty.branch [
  | then-is_empty-via-then-is_empty w ↦ search (rules, empty_no_label)
  | then-is_empty-via-else-is_empty+then-l-eq45 w ↦ search (rules, first_no_label)
  | then-is_empty-via-else-is_empty+else-l-eq45+then-l-eq45-2 w ↦ search (rules, last_no_label)
]

pub returns : goal.returns
returns c = search (rules, label_by_octets)
