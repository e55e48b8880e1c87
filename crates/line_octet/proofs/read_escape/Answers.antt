-- `read_escape` meets its contract: a law of escape_at for each return.
use borrow.Author.Rules.{rules}
use Rattle.line_octet.proofs.UnitPlaces.{escape_cut_off, three_cut_off, no_number, number_there, below_32, above_126, quoted_there}
use Rattle.line_octet.proofs.read_escape.Goals as goal

pub returns-in_err-x : goal.returns-in_err-x
returns-in_err-x c = search (rules, escape_cut_off)

pub returns-then-s-at-lt3 : goal.returns-then-s-at-lt3
returns-then-s-at-lt3 c = search (rules, three_cut_off)

pub returns-in_err-octet : goal.returns-in_err-octet
returns-in_err-octet c = search (rules, no_number)

pub returns-then-is_digit : goal.returns-then-is_digit
returns-then-is_digit c = search (rules, number_there)

pub returns-then-x-lt32 : goal.returns-then-x-lt32
returns-then-x-lt32 c = search (rules, below_32)

pub returns-then-x-gt126 : goal.returns-then-x-gt126
returns-then-x-gt126 c = search (rules, above_126)

pub returns : goal.returns
returns c = search (rules, quoted_there)
