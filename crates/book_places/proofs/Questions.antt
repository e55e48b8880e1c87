-- A question is told by its number.
use Prim.Native.Nat.{ℕ, ◌+◌, ◌*◌, ◌/◌, ◌%◌}
use native.Mathlib.Omega.{arith}
use native.Mathlib.Nat.{mod-eq_of_lt}
use mathlib.Core.Path.{◌≡◌}
use mathlib.Core.Bool.{true, false}
use Rattle.book_places.specs.NameAuthorizations.{question_number, answer_to}
use Rattle.book_places.specs.Theorems.{QuestionByNumber}

-- twice a number and a digit
even : (n : ℕ) → ((2 * n + 0) / 2 ≡ n) × ((2 * n + 0) % 2 ≡ 0)
even n = (omega arith, omega arith)

odd : (n : ℕ) → ((2 * n + 1) / 2 ≡ n) × ((2 * n + 1) % 2 ≡ 1)
odd n = (omega arith, omega arith)

pub question_by_number : QuestionByNumber
unfolding question_number answer_to
question_by_number book table links set false h = rw (mod-eq_of_lt h, (even set.0).0, (even set.0).1)
question_by_number book table links set true h = rw (mod-eq_of_lt h, (odd set.0).0, (odd set.0).1)
