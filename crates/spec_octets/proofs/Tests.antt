-- The value of a test from what the code found of its numbers: the rule set `tests`. At a need that equates an answer with a
-- definition by tests, `search (needs, tests)` under `unfolding` of that definition.
use native.Mathlib.Nat.{le_trans, lt_of_le_of_lt}
use mathlib.Core.Bool.{and-false, or-true, or-false}
use borrow.Author.Tests.{le-leb, lt-leb, eq-eqb, ne_eqb}

-- the last two carry a bound over to another numeral: what is below 48 is below 65
pub ruleset tests = (le-leb, lt-leb, eq-eqb, ne_eqb, and-false, or-true, or-false, le_trans, lt_of_le_of_lt)
