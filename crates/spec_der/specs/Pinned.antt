-- A theorem that reads what was written doesn't fix a format: change reader and writer together, and it still holds. So each format is also
-- spelled out by an equation. Each is proved under its name in proofs/.
use Rattle.std.specs.Prelude.{◌≡◌, [], ◌∷◌, ◌++◌, map, length, None, Some}
use Rattle.spec_octets.specs.Lists.{flatten}
use Rattle.spec_der.specs.Elements.{Element, wire_length, wire_element}
use Rattle.spec_der.specs.Certificate.{max_certificate_octets, TbsCertificate, Certificate, wire_version, wire_tbs, wire_certificate}

-- X.690 section 8.1.1: tag octet, length octets, contents.
abbrev pub ElementForm : Type 0
ElementForm = (e : Element) → wire_element e ≡ e.tag ∷ (wire_length (length e.contents) ++ e.contents)

-- RFC 5280 section 4.1, TBSCertificate: the fields in their order. A version that isn't there has no octets.
abbrev pub TbsForm : Type 0
TbsForm =
    (wire_version None ≡ []) × ((e : Element) → wire_version (Some e) ≡ wire_element e)
    × ((t : TbsCertificate) → wire_tbs t
    ≡ wire_version t.version ++ wire_element t.serial_number ++ wire_element t.signature ++ wire_element t.issuer
    ++ wire_element t.validity ++ wire_element t.subject ++ wire_element t.subject_public_key_info
    ++ flatten (map wire_element t.others))

-- RFC 5280 section 4.1, Certificate: a SEQUENCE of the body, itself a SEQUENCE, and two more elements.
abbrev pub CertificateForm : Type 0
CertificateForm =
    (c : Certificate) →
    wire_certificate c
    ≡ wire_element (record {
      tag = 48;
      contents =
          wire_element (record { tag = 48; contents = wire_tbs c.tbs_certificate }) ++ wire_element c.signature_algorithm
          ++ wire_element c.signature_value;
    })

-- "at most 16,384 octets"
abbrev pub CertificateOctets : Type 0
CertificateOctets = max_certificate_octets ≡ 16384
