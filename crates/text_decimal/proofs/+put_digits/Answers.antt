-- `put_digits` meets its contract.
use borrow.Author.Rules.{rules}
use Rattle.text_decimal.proofs.DecimalPieces.{digit_room, digit_put, tens_room, last_room, last_put}
use Rattle.text_decimal.proofs.+put_digits.Goals as goal

pub bounds-out-0 : goal.bounds-out-0
bounds-out-0 t c = search (rules, digit_room)

pub returns-then-n-lt10 : goal.returns-then-n-lt10
returns-then-n-lt10 t c = search (rules, digit_put)

pub put_digits-w-requires : goal.put_digits-w-requires
put_digits-w-requires t c = search (rules, tens_room)

pub bounds-out-w : goal.bounds-out-w
bounds-out-w t c = search (rules, last_room)

pub returns : goal.returns
returns t c = search (rules, last_put)
