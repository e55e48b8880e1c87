-- An answer packed into 64 bits: its number in bits 0 to 7, field a in bits 8 to 31, b in 32 to 47, c in 48 to 63.
use Rattle.std.specs.Prelude.{ℕ, ◌+◌, ◌*◌, ◌/◌, ◌%◌, ◌^◌}
use Rattle.spec_refusal.specs.declared.Refusal.{Refusal}
use Rattle.spec_refusal.specs.Refusal.{number, place}

unfoldable pub packed : ℕ → ℕ → ℕ → ℕ → ℕ
packed n a b c = n % 2 ^ 8 + a % 2 ^ 24 * 2 ^ 8 + b % 2 ^ 16 * 2 ^ 32 + c % 2 ^ 16 * 2 ^ 48

unfoldable pub packed_refusal : Refusal → ℕ
packed_refusal r = packed (number r) (place r) 0 0

-- The number and the fields of a packed answer.
abbrev pub number_in : ℕ → ℕ
number_in x = x % 2 ^ 8

abbrev pub field_a : ℕ → ℕ
field_a x = x / 2 ^ 8 % 2 ^ 24

abbrev pub field_b : ℕ → ℕ
field_b x = x / 2 ^ 32 % 2 ^ 16

abbrev pub field_c : ℕ → ℕ
field_c x = x / 2 ^ 48
