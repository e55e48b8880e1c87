-- The public key of a certificate: the whole subject_public_key_info element, with its tag and length octets.
use Rattle.std.specs.Prelude.{ℕ, Bool, true, false, List, [], ◌∷◌, ◌++◌, length, Option, None, Some}
use Rattle.spec_der.specs.Elements.{wire_length, wire_element}
use Rattle.spec_der.specs.Certificate.{sequence, TbsCertificate, Certificate, wire_version, wire_elements, wire_tbs, wire_contents, certificate}

-- Whether s is laid out as a certificate.
abbrev pub is_read : Option Certificate → Bool
is_read None = false
is_read (Some c) = true

unfoldable pub is_certificate : List ℕ → Bool
is_certificate s = is_read (certificate s)

abbrev pub key_in : Option Certificate → List ℕ
key_in None = []
key_in (Some c) = wire_element c.tbs_certificate.subject_public_key_info

-- The octets of the key; empty if s isn't laid out as a certificate.
unfoldable pub key_part : List ℕ → List ℕ
key_part s = key_in (certificate s)

-- The octets before the key, and those after it.
abbrev pub header : List ℕ → List ℕ
header d = sequence ∷ wire_length (length d)

abbrev pub before_in_tbs : TbsCertificate → List ℕ
before_in_tbs t =
    wire_version t.version ++ wire_element t.serial_number ++ wire_element t.signature ++ wire_element t.issuer
    ++ wire_element t.validity ++ wire_element t.subject

abbrev pub before_key : Certificate → List ℕ
before_key c = header (wire_contents c) ++ header (wire_tbs c.tbs_certificate) ++ before_in_tbs c.tbs_certificate

abbrev pub after_key : Certificate → List ℕ
after_key c = wire_elements c.tbs_certificate.others ++ (wire_element c.signature_algorithm ++ wire_element c.signature_value)
