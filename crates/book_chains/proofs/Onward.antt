-- Where a chain goes on: a law for each way out of the code.
use Prim.Native.Nat.{ℕ, ◌≤◌, ◌<◌}
use native.Mathlib.Omega.{arith}
use mathlib.Core.Path.{◌≡◌}
use mathlib.Core.List.{List}
use lib.ListN.{length, get_or, get_or-eq_default}
use borrow.Author.Tests.{lt-ltb, le-ltb}
use Rattle.book_places.specs.Chains.{behind}

module _ (links : List ℕ) (i : ℕ) where
  pub not_later : get_or links i 0 ≤ i → length links ≡ behind links i
  unfolding behind
  not_later h = rw (le-ltb i (get_or links i 0) h)

  pub no_link : length links ≤ i → length links ≡ behind links i
  no_link h = not_later (rw (get_or-eq_default links 0 h) (omega arith))

  pub later : i < get_or links i 0 → get_or links i 0 ≡ behind links i
  unfolding behind
  later h = rw (lt-ltb i (get_or links i 0) h)
