-- The TLSA records of a book, and which of them match a certificate or its key (RFC 6698 sections 2.1 and 4).
use Rattle.std.specs.Prelude.{ℕ, Bool, true, false, cond, ◌&&◌, List, [], ◌∷◌, eqb}
use Rattle.spec_octets.specs.Lists.{any, select}
use Rattle.spec_octets.specs.Octets.{same}
use Rattle.spec_name.specs.Names.{Name, same_name}
use Rattle.spec_record.specs.Records.{Record}
use Rattle.spec_record.specs.Kinds.{of_kind_from}
use Rattle.spec_tlsa.specs.declared.Matching.{Matching}
use Rattle.spec_tlsa.specs.declared.Matching.TheVariants.{Match, NoMatch, NothingUsable}
use Rattle.spec_tlsa.specs.Association.{Association, is_tlsa, association, is_usage, is_selector, is_matching_type}

-- A TLSA record, with its number among all records of the book.
pub record TlsaRecord : Type 0 where
  pub number : ℕ
  pub owner : Name
  pub association : Association

abbrev pub as_tlsa : ℕ → Name → Association → TlsaRecord
as_tlsa k owner a = record { number = k; owner = owner; association = a }

abbrev pub tlsa_records : List Record → List TlsaRecord
tlsa_records rs = of_kind_from is_tlsa association as_tlsa 0 rs

-- The TLSA records with that owner. Aliases are not followed.
abbrev pub tlsa_at : List TlsaRecord → Name → List TlsaRecord
tlsa_at rs x = select (λ r. same_name r.owner x) rs

-- What is matched: the octets of the certificate and of its public key, for a certificate usage.
pub record Presented : Type 0 where
  pub usage : ℕ
  pub certificate : List ℕ
  pub key : List ℕ

-- Each field has a known value.
unfoldable pub is_usable : Association → Bool
is_usable a = is_usage a.usage && is_selector a.selector && is_matching_type a.matching

-- RFC 6698 section 2.1.2: selector 0 is the full certificate, selector 1 its public key (SubjectPublicKeyInfo).
abbrev pub selected : Presented → ℕ → List ℕ
selected c selector = cond (eqb selector 0) c.certificate c.key

-- RFC 6698 section 2.1.3, matching type 0: an exact match on the selected octets, all of them.
unfoldable pub is_match : Presented → Association → Bool
is_match c a = is_usable a && eqb a.usage c.usage && same a.octets (selected c a.selector)

-- The first of the records that match; without one, whether any is usable.
abbrev pub first_match : List TlsaRecord → Bool → Matching
first_match [] true = NoMatch
first_match [] false = NothingUsable
first_match (r ∷ rs) anyUsable = Match (record { 0 = r.number })

unfoldable pub matching : Presented → List TlsaRecord → Matching
matching c rs = first_match (select (λ r. is_match c r.association) rs) (any (λ r. is_usable r.association) rs)
