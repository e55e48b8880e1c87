-- Unpacking returns what was packed; for a refusal its number and place.
use Prim.Native.Nat.{◌^◌, ◌<◌}
use native.Mathlib.Omega.{arith}
use mathlib.Core.Path.{refl}
use Rattle.spec_refusal.specs.declared.Refusal.{Refusal}
use Rattle.spec_refusal.specs.declared.Refusal.TheVariants.{RequestTooLong, BadName, TooManyNames, BadIssuer, BookTooLong, BadRecord, TooManyRecords, AliasConflict, NoRoom, BadLine, LineTooLong, BadData, SessionEnded, BadAccountOrMethod}
use Rattle.spec_refusal.specs.Refusal.{number, place}
use Rattle.spec_packed.specs.Packed.{packed, packed_refusal}
use Rattle.spec_packed.specs.Theorems.{Unpacks, FieldsApart, RefusalUnpacks, PackedBits, PackedExample, PackedRefusals}

pub unpacks : Unpacks
unfolding packed
unpacks n a b c hn ha hb hc = (omega arith, omega arith, omega arith, omega arith, omega arith)

pub fields_apart : FieldsApart
unfolding packed
fields_apart n a b c = (omega arith, omega arith, omega arith, omega arith, omega arith)

pub number_small : (r : Refusal) → number r < 2 ^ 8
unfolding number
number_small RequestTooLong = omega arith
number_small (BadName k) = omega arith
number_small TooManyNames = omega arith
number_small BadIssuer = omega arith
number_small BookTooLong = omega arith
number_small (BadRecord r) = omega arith
number_small TooManyRecords = omega arith
number_small (AliasConflict r) = omega arith
number_small (NoRoom n) = omega arith
number_small BadLine = omega arith
number_small LineTooLong = omega arith
number_small BadData = omega arith
number_small SessionEnded = omega arith
number_small BadAccountOrMethod = omega arith

pub refusal_unpacks : RefusalUnpacks
unfolding packed packed_refusal
refusal_unpacks r h = omega (arith, number_small r)

pub packed_bits : PackedBits
unfolding packed
packed_bits n a b c hn ha hb hc = omega arith

pub packed_example : PackedExample
unfolding packed
packed_example = refl

pub packed_refusals : PackedRefusals
unfolding number place packed packed_refusal
packed_refusals = (refl, refl, refl)
