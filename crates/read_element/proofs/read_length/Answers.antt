-- `read_length` meets its contract: a law of lengthAt for each return.
use borrow.Author.Rules.{rules}
use Rattle.read_element.proofs.LengthWays.{nothing_left, one_octet, second_cut_off, not_the_shortest, two_octets, no_such_form, third_cut_off, leading_zero, three_octets}
use Rattle.read_element.proofs.read_length.Goals as goal

pub returns-in_err-get : goal.returns-in_err-get
returns-in_err-get c = search (rules, nothing_left)

pub returns-then-x-lt128 : goal.returns-then-x-lt128
returns-then-x-lt128 c = search (rules, one_octet)

pub returns-in_err-get-2 : goal.returns-in_err-get-2
returns-in_err-get-2 c = search (rules, second_cut_off)

pub returns-in-129 : goal.returns-in-129
returns-in-129 c = search (rules, two_octets)

pub returns-in_err-get-in-130 : goal.returns-in_err-get-in-130
returns-in_err-get-in-130 c = search (rules, third_cut_off)

pub returns-in_ok-get-in-130 : goal.returns-in_ok-get-in-130
returns-in_ok-get-in-130 c = search (rules, three_octets)

pub returns-in_default : goal.returns-in_default
returns-in_default c = search (rules, not_the_shortest)

pub returns-in_default-2 : goal.returns-in_default-2
returns-in_default-2 c = search (rules, leading_zero)

pub returns-in_default-3 : goal.returns-in_default-3
returns-in_default-3 c = search (rules, no_such_form)
