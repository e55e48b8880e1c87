-- `hex_digit` meets its contract.
use borrow.Author.Rules.{rules}
use Rattle.text_hex.proofs.HexTests.{low_digit, high_digit}
use Rattle.text_hex.proofs.hex_digit.Goals as goal

pub returns-then-d-lt10 : goal.returns-then-d-lt10
returns-then-d-lt10 c = search (rules, low_digit)

pub returns-else-d-lt10 : goal.returns-else-d-lt10
returns-else-d-lt10 c = search (rules, high_digit)
