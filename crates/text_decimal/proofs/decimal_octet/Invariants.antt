-- `decimal_octet` meets its contract. The loop's invariant: the number so far and the digits left give the answer.
use Rattle.std.proofs.Common.{◌≡◌, ◌≤◌, drop}
use Rattle.text_decimal.specs.Places.{decimal_in}
use Rattle.text_decimal.proofs.DecimalWalk.{digits_left}
use Rattle.text_decimal.proofs.decimal_octet.Given as goal

abbrev pub invariant-loop-b : goal.invariant-loop-b
invariant-loop-b l = (l.n ≤ 255) × (decimal_in l.s ≡ digits_left l.n (drop l.b-index l.s))
