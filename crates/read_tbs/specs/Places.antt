-- The signed body of a certificate by offsets, for code that walks a slice.
use Rattle.read_tbs.specs.declared.KeyAt.{KeyAt}
use Rattle.std.specs.Prelude.{ℕ, ◌+◌, Bool, true, false, cond, List, length, drop, Option, None, Some}
use Rattle.spec_octets.specs.Reader.{Reader, place_of}
use Rattle.spec_der.specs.Elements.{Element, wire_element, elements}
use Rattle.spec_der.specs.Certificate.{TbsCertificate, tbs_certificate}
use Rattle.spec_der.specs.Key.{before_in_tbs}

-- The offset after what a reader reads. A fault stays a fault.
abbrev pub end_place : {A : Type 0} → List ℕ → Option (A × List ℕ) → Option ℕ
end_place s None = None
end_place s (Some r) = Some (place_of s r.1)

abbrev pub past : {A : Type 0} → Reader A → List ℕ → Option ℕ → Option ℕ
past read s (Some at) = end_place s (read (drop at s))
past read s None = None

-- The offset of the first octet.
abbrev pub start : Option ℕ
start = Some 0

-- Whether octets are elements, one after the other.
abbrev pub were_read : Option (List Element × List ℕ) → Bool
were_read None = false
were_read (Some r) = true

unfoldable pub are_elements : List ℕ → Bool
are_elements s = were_read (elements s)

-- The key between two offsets, if elements follow it.
abbrev pub key_between : List ℕ → Option ℕ → Option ℕ → Option KeyAt
key_between s (Some from) (Some to) = cond (are_elements (drop to s)) (Some (record { from = from; to = to })) None
key_between s (Some from) None = None
key_between s None last = None

-- The key in the contents of a signed body: it begins after the subject.
abbrev pub key_places : Option (TbsCertificate × List ℕ) → Option KeyAt
key_places None = None
key_places (Some r) =
    Some (record { from = length (before_in_tbs r.0); to = length (before_in_tbs r.0) + length (wire_element r.0.subject_public_key_info) })

unfoldable pub key_in_tbs : List ℕ → Option KeyAt
key_in_tbs s = key_places (tbs_certificate s)
