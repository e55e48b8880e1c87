-- `decimal_octet` meets its contract. The loop's invariant: the number so far and the digits left give the answer.
use Rattle.std.proofs.Common.{rules}
use Rattle.text_decimal.proofs.DecimalWalk.{no_digits, many_digits, digits_start, digit_low, no_digit, tens_over, number_over, digits_turn, digits_end}
use Rattle.text_decimal.proofs.decimal_octet.Goals.{then-is_empty-via-then-is_empty, then-is_empty-via-else-is_empty+then-s-gt3}
use Rattle.text_decimal.proofs.decimal_octet.Goals as goal

pub returns-then-is_empty : goal.returns-then-is_empty
returns-then-is_empty c = elim c.then-is_empty.branch [
  | then-is_empty-via-then-is_empty w ↦ search (rules, no_digits)
  | then-is_empty-via-else-is_empty+then-s-gt3 w ↦ search (rules, many_digits)
]

pub loop-b-init : goal.loop-b-init
loop-b-init c = search (rules, digits_start)

pub returns-then-not-is_digit : goal.returns-then-not-is_digit
returns-then-not-is_digit c = search (rules, no_digit)

pub returns-in_err-checked_mul : goal.returns-in_err-checked_mul
returns-in_err-checked_mul c = search (rules, tens_over)

pub overflow_sub-b : goal.overflow_sub-b
overflow_sub-b c = search (rules, digit_low)

pub returns-in_err-n : goal.returns-in_err-n
returns-in_err-n c = search (rules, number_over)

pub loop-b-preserved : goal.loop-b-preserved
loop-b-preserved c = search (rules, digits_turn)

pub returns : goal.returns
returns c = search (rules, digits_end)
