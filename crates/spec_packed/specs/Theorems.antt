-- What the definitions of this crate mean. Each statement is proved under its name in proofs/.
use Rattle.std.specs.Prelude.{ℕ, ◌<◌, ◌+◌, ◌*◌, ◌%◌, ◌^◌, ◌≡◌}
use Rattle.spec_refusal.specs.declared.Refusal.{Refusal}
use Rattle.spec_refusal.specs.declared.Refusal.TheVariants.{BadRecord, NoRoom, BadData}
use Rattle.spec_refusal.specs.Refusal.{number, place}
use Rattle.spec_packed.specs.Packed.{packed, packed_refusal, number_in, field_a, field_b, field_c}

-- Unpacking returns what was packed, if each part fits its field, and the result fits 64 bits.
abbrev pub Unpacks : Type 0
Unpacks =
    (n a b c : ℕ) → n < 2 ^ 8 → a < 2 ^ 24 → b < 2 ^ 16 → c < 2 ^ 16 →
    (number_in (packed n a b c) ≡ n) × (field_a (packed n a b c) ≡ a) × (field_b (packed n a b c) ≡ b) × (field_c (packed n a b c) ≡ c)
    × (packed n a b c < 2 ^ 64)

-- Whatever is packed, no field reaches into another or past bit 63.
abbrev pub FieldsApart : Type 0
FieldsApart =
    (n a b c : ℕ) →
    (number_in (packed n a b c) ≡ n % 2 ^ 8) × (field_a (packed n a b c) ≡ a % 2 ^ 24) × (field_b (packed n a b c) ≡ b % 2 ^ 16)
    × (field_c (packed n a b c) ≡ c % 2 ^ 16) × (packed n a b c < 2 ^ 64)

-- A refusal is packed as its number, with its place in a and 0 in b and c.
abbrev pub RefusalUnpacks : Type 0
RefusalUnpacks =
    (r : Refusal) → place r < 2 ^ 24 →
    (number_in (packed_refusal r) ≡ number r) × (field_a (packed_refusal r) ≡ place r) × (field_b (packed_refusal r) ≡ 0)
    × (field_c (packed_refusal r) ≡ 0)

-- If each part fits its field, the packed answer is their sum, each part at the bits of its field.
abbrev pub PackedBits : Type 0
PackedBits =
    (n a b c : ℕ) → n < 2 ^ 8 → a < 2 ^ 24 → b < 2 ^ 16 → c < 2 ^ 16 →
    packed n a b c ≡ n + a * 256 + b * 4294967296 + c * 281474976710656

-- A packed answer as one number: 21, name 1, record 3, 5 labels taken off.
abbrev pub PackedExample : Type 0
PackedExample = packed 21 1 3 5 ≡ 1407387768455445

-- Packed refusals, worked out by hand: 6 at record 4, 8 for 32 octets, and 11, whose place is 0.
abbrev pub PackedRefusals : Type 0
PackedRefusals = (packed_refusal (BadRecord (record { 0 = 4 })) ≡ 1030) × (packed_refusal (NoRoom 32) ≡ 8200) × (packed_refusal BadData ≡ 11)
