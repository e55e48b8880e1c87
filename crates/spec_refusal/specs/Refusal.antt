-- The requirements' table of refusals, "When the desk says no": the number of each refusal, and its place. "Place" is the requirements' word for
-- the one value that a refusal carries: the number of a name or record, the octets needed, or 0.
use Rattle.std.specs.Prelude.{ℕ}
use Rattle.spec_limits.specs.Limits.{max_names, max_records}
use Rattle.spec_refusal.specs.declared.Refusal.{Refusal}
use Rattle.spec_refusal.specs.declared.Refusal.TheVariants.{RequestTooLong, BadName, TooManyNames, BadIssuer, BookTooLong, BadRecord, TooManyRecords, NoRoom, BadLine, LineTooLong, BadData, AliasConflict, SessionEnded, BadAccountOrMethod}

unfoldable pub number : Refusal → ℕ
number RequestTooLong = 1
number (BadName k) = 2
number TooManyNames = 3
number BadIssuer = 4
number BookTooLong = 5
number (BadRecord r) = 6
number TooManyRecords = 7
number (NoRoom n) = 8
number BadLine = 9
number LineTooLong = 10
number BadData = 11
number (AliasConflict r) = 12
number SessionEnded = 14
number BadAccountOrMethod = 15

unfoldable pub place : Refusal → ℕ
place RequestTooLong = 0
place (BadName k) = k.0
place TooManyNames = max_names
place BadIssuer = 0
place BookTooLong = 0
place (BadRecord r) = r.0
place TooManyRecords = max_records
place (NoRoom n) = n
place BadLine = 0
place LineTooLong = 0
place BadData = 0
place (AliasConflict r) = r.0
place SessionEnded = 0
place BadAccountOrMethod = 0
