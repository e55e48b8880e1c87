-- `is_port` meets its contract. The loop's invariant: the number so far and the digits left give the answer.
use borrow.Author.Tests.{not-true, not-false}
use borrow.Author.Rules.{rules}
use Rattle.tlsa_service.proofs.PortWalk.{digit_low, digit_fits, number_fits, bad_length, zero_alone, digits_start, digits_end, no_digit, digits_turn, number_over}
use Rattle.tlsa_service.proofs.is_port.Goals as goal

pub returns-then-port-eq0 : goal.returns-then-port-eq0
returns-then-port-eq0 c = bad_length _ c.then-port-eq0.either

pub returns-then-port-eq48 : goal.returns-then-port-eq48
returns-then-port-eq48 c = search (rules, zero_alone)

pub loop-b-init : goal.loop-b-init
loop-b-init c = search (rules, digits_start)

pub returns-then-not-is_digit : goal.returns-then-not-is_digit
returns-then-not-is_digit c = search (rules, no_digit, not-true)

pub overflow_sub-b : goal.overflow_sub-b
overflow_sub-b c = search (rules, digit_low, not-false)

pub overflow_add-n : goal.overflow_add-n
overflow_add-n c = search (rules, number_fits, not-false)

pub returns-then-n-gt65535 : goal.returns-then-n-gt65535
returns-then-n-gt65535 c = search (rules, number_over, not-false)

pub loop-b-preserved : goal.loop-b-preserved
loop-b-preserved c = search (rules, digits_turn, not-false)

pub returns : goal.returns
returns c = search (rules, digits_end)
