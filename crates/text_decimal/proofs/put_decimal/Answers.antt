-- `put_decimal` meets its contract.
use borrow.Author.Rules.{rules}
use Rattle.text_decimal.proofs.DecimalPieces.{no_digits_answer, no_digits_octets, digits_answer, digits_octets}
use Rattle.text_decimal.proofs.put_decimal.Goals as goal

pub returns-then-out-count : goal.returns-then-out-count
returns-then-out-count c = search (rules, no_digits_answer, no_digits_octets)

pub returns : goal.returns
returns c = search (rules, digits_answer, digits_octets)
