-- The two calls: the owner of a service in the caller's buffer, and the match.
use Rattle.std.specs.Prelude.{ℕ, List, [], ◌∷◌, Option, None, Some}
use Rattle.spec_refusal.specs.declared.Refusal.{Refusal}
use Rattle.spec_refusal.specs.declared.Refusal.TheVariants.{BadName}
use Rattle.spec_name.specs.Names.{Name, wire}
use Rattle.spec_record.specs.Records.{records, book_refusal}
use Rattle.spec_rule.specs.Calls.{first_refusal, AnswerCode, refusal_code}
use Rattle.spec_line.specs.Calls.{Output, refused, placed}
use Rattle.spec_tlsa.specs.declared.Matching.{Matching}
use Rattle.spec_tlsa.specs.declared.Matching.TheVariants.{Match, NoMatch, NothingUsable, Refused}
use Rattle.spec_tlsa.specs.Owners.{Service, service_owner}
use Rattle.spec_tlsa.specs.Matches.{TlsaRecord, tlsa_records, tlsa_at, Presented, matching}

-- "any other host, port or transport, or a name that grows over 255 octets, is refusal 2, place 0"
abbrev pub bad_service : Refusal
bad_service = BadName (record { 0 = 0 })

-- Writes the owner in wire form. The checks in their order: 2; 8.
abbrev pub owner_placed : Option Name → List ℕ → Output
owner_placed None buffer = refused bad_service buffer
owner_placed (Some x) buffer = placed (wire x) buffer

unfoldable pub write_owner : Service → List ℕ → Output
write_owner s buffer = owner_placed (service_owner s) buffer

abbrev pub owner_check : Option Name → Option Refusal
owner_check None = Some bad_service
owner_check (Some x) = None

unfoldable pub owner_refusal : Service → Option Refusal
owner_refusal s = owner_check (service_owner s)

-- The match. The checks in their order: 2; 5, 6, 7 and 12 for the book.
abbrev pub match_checks : Service → List ℕ → List (Option Refusal)
match_checks s book = owner_refusal s ∷ book_refusal book ∷ []

abbrev pub tlsa_of : Option Name → List TlsaRecord → List TlsaRecord
tlsa_of None rs = []
tlsa_of (Some x) rs = tlsa_at rs x

abbrev pub refused_or : Option Refusal → Matching → Matching
refused_or None m = m
refused_or (Some r) m = Refused r

unfoldable pub match_service : Service → Presented → List ℕ → Matching
match_service s c book =
    refused_or (first_refusal (match_checks s book)) (matching c (tlsa_of (service_owner s) (tlsa_records (records book))))

-- The number and the values of each answer. 60, 61 and 62 are this project's own.
unfoldable pub matching_code : Matching → AnswerCode
matching_code (Match r) = record { number = 60; values = r.0 ∷ [] }
matching_code NoMatch = record { number = 61; values = [] }
matching_code NothingUsable = record { number = 62; values = [] }
matching_code (Refused r) = refusal_code r
