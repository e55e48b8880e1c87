-- The recursion of `put_digits` ends because n / 10 is less than n.
use Rattle.text_decimal.proofs.+put_digits.Given as goal

abbrev pub decreases-put_digits : goal.decreases-put_digits
decreases-put_digits l = l.n
