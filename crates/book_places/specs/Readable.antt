-- The records at the start of a text of octets, as far as their fields can be read. Their data is checked once, with the book.
use Rattle.std.specs.Prelude.{ℕ, zero, suc, List, [], ◌∷◌, Option, None, Some}
use Rattle.spec_record.specs.Records.{Record}
use Rattle.read_record.specs.Places.{record_fields}

-- `readable room s` reads at most `room` records. Of an accepted book it reads all records.
abbrev pub before : Option (Record × List ℕ) → (List ℕ → List Record) → List Record
before None rest = []
before (Some r) rest = r.0 ∷ rest r.1

abbrev pub readable : ℕ → List ℕ → List Record
readable zero s = []
readable (suc room) s = before (record_fields s) (λ rest. readable room rest)
