-- What a padded message has after the whole blocks of the message.
use Rattle.std.specs.Prelude.{ℕ, ◌*◌, ◌/◌, List, ◌++◌, length, drop}
use Rattle.spec_digest.specs.Padding.{padding}

unfoldable pub tail : ℕ → List ℕ → List ℕ
tail n s = drop (length s / (16 * n) * (16 * n)) s ++ padding n (length s)
