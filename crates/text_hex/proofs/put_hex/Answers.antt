-- `put_hex` meets its contract.
use borrow.Author.Rules.{rules}
use Rattle.text_hex.proofs.HexTests.{no_digits_answer, no_digits_octets, digits_answer, digits_octets}
use Rattle.text_hex.proofs.put_hex.Goals as goal

pub returns-then-out-lt2 : goal.returns-then-out-lt2
returns-then-out-lt2 c = search (rules, no_digits_answer, no_digits_octets)

pub returns : goal.returns
returns c = search (rules, digits_answer, digits_octets)
