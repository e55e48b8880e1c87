-- What the proofs know about a file that was read into a buffer. No contract can say what the file holds.
use Rattle.std.specs.Prelude.{ℕ, List, Option, None, Some, IfSome}
use Rattle.io.specs.Counts.{IsPrefixLen}

-- The octets of the file are at the start of the buffer; none if the file is missing or a read failed.
abbrev pub Taken : Option ℕ → List ℕ → Type 0
Taken file buffer = IfSome file (λ n. IsPrefixLen n buffer)

-- How many octets of the file are at the start of the buffer: none if the file is missing or a read failed.
unfoldable pub octets_of : Option ℕ → ℕ
octets_of None = 0
octets_of (Some n) = n
