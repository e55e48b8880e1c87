-- Unpacking the answers of writing and reading a line gives the number and the length or place: each length fits its field.
use Rattle.spec_refusal.specs.declared.Refusal.{Refusal}
use Rattle.std.specs.Prelude.{Option, None, Some, Result, Ok, Err}
use Prim.Native.Nat.{ℕ, ◌^◌, ◌≤◌, ◌<◌}
use native.Mathlib.Omega.{arith}
use mathlib.Core.Path.{◌≡◌, refl, ap}
use mathlib.Core.Bool.{Bool, true, false, cond}
use mathlib.Core.List.{List, ◌++◌}
use lib.Dec.{leb}
use lib.ListN.{length, drop, length-append}
use borrow.Author.Tests.{leb-true}
use Rattle.spec_limits.specs.Limits.{max_data_octets, max_line_octets}
use Rattle.spec_refusal.specs.declared.Refusal.TheVariants.{NoRoom, LineTooLong, BadData}
use Rattle.spec_refusal.specs.Refusal.{place}
use Rattle.spec_octets.proofs.ListLaws.{All-head}
use Rattle.spec_record.specs.Property.{Property, wire_property, property}
use Rattle.spec_record.proofs.PropertyLaws.{property_is_its_parts}
use Rattle.spec_packed.proofs.Unpacking.{number_small}
use Rattle.spec_line.specs.Written.{line}
use Rattle.spec_line.specs.Read.{read_line}
use Rattle.spec_line.specs.Calls.{Output, refused, placed, is_writable, written_of, write_line, read_of, parse_line}
use Rattle.spec_line.proofs.LineLength.{line_short}
use Rattle.spec_answers.specs.LineAnswers.{line_code, packed_line}
use Rattle.spec_answers.specs.Theorems.{Unpacked, WrittenLineUnpacks, ReadLineUnpacks}
use Rattle.spec_answers.specs.Pinned.{LineCodes}
use Rattle.spec_answers.proofs.JudgementUnpacks.{told_unpacks}

-- Each length fits its field.

abbrev MadeFits : Result ℕ Refusal → Type 0
MadeFits (Ok n) = n < 2 ^ 24
MadeFits (Err r) = place r < 2 ^ 24

cond_fits : (t : Bool) (a b : Output) → (t ≡ true → MadeFits a.answer) → MadeFits b.answer → MadeFits (cond t a b).answer
cond_fits true a b h k = h refl
cond_fits false a b h k = k

placed_fits : (made b : List ℕ) → length made < 2 ^ 24 → MadeFits (placed made b).answer
unfolding placed place
placed_fits made b h =
    cond_fits (leb (length made) (length b)) (record { answer = Ok (length made); buffer = made ++ drop (length made) b })
    (refused (NoRoom (length made)) b) (λ e. h) h

line_small : (d : List ℕ) (p : Property) → p.flags < 256 → length d ≤ max_data_octets → property d ≡ Some p → length (line p) < 2 ^ 24
unfolding max_data_octets
line_small d p flags few e =
    let whole = ((property_is_its_parts d p).0 e).0 in
    omega (arith, ap length whole, length-append p.tag p.value, line_short p flags)

-- the flags of the data are one octet
abbrev pub FlagsFit : List ℕ → Type 0
FlagsFit d = (p : Property) → property d ≡ Some p → p.flags < 256

write_fits : (d b : List ℕ) → FlagsFit d → MadeFits (write_line d b).answer
unfolding write_line place
write_fits d b flags =
    cond_fits (leb (length d) max_data_octets) (written_of (property d) b) (refused LineTooLong b)
    (λ e. found (leb-true (length d) max_data_octets e) (property d) refl) (omega arith)
  where
    found : length d ≤ max_data_octets → (o : Option Property) → property d ≡ o → MadeFits (written_of o b).answer
    found few None e = omega arith
    found few (Some p) e =
        cond_fits (is_writable p) (placed (line p) b) (refused BadData b) (λ w. placed_fits (line p) b (line_small d p (flags p e) few e)) (omega arith)

data_small : (n : ℕ) → leb n max_data_octets ≡ true → n < 2 ^ 24
unfolding max_data_octets
data_small n e = omega (arith, leb-true n 4096 e)

read_fits : (s b : List ℕ) → MadeFits (parse_line s b).answer
unfolding parse_line place
read_fits s b = cond_fits (leb (length s) max_line_octets) (read_of (read_line s) b) (refused LineTooLong b) (λ e. found (read_line s)) (omega arith)
  where
    found : (o : Option Property) → MadeFits (read_of o b).answer
    found None = omega arith
    found (Some p) =
        cond_fits (leb (length (wire_property p)) max_data_octets) (placed (wire_property p) b) (refused LineTooLong b)
        (λ e. placed_fits (wire_property p) b (data_small (length (wire_property p)) e)) (omega arith)

pub line_codes : LineCodes
unfolding line_code
line_codes = (λ n. refl, λ r. refl)

-- So unpacking gives the number and the length or the place.

fitting_unpacks : (m : Result ℕ Refusal) → MadeFits m → Unpacked (packed_line m) (line_code m)
unfolding packed_line line_code
fitting_unpacks (Ok n) h = told_unpacks (line_code (Ok n)) (omega arith) h (omega arith) (omega arith)
fitting_unpacks (Err r) h = told_unpacks (line_code (Err r)) (number_small r) h (omega arith) (omega arith)

pub small_flags_unpack : (d b : List ℕ) → FlagsFit d → Unpacked (packed_line (write_line d b).answer) (line_code (write_line d b).answer)
small_flags_unpack d b flags = fitting_unpacks (write_line d b).answer (write_fits d b flags)

pub written_line_unpacks : WrittenLineUnpacks
written_line_unpacks d b octets = small_flags_unpack d b (λ p e. All-head (rw ((property_is_its_parts d p).0 e).0 at octets))

pub read_line_unpacks : ReadLineUnpacks
read_line_unpacks s b = fitting_unpacks (parse_line s b).answer (read_fits s b)
