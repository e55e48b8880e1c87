-- What the definitions of this crate mean. Each statement is proved under its name in proofs/.
use Rattle.std.specs.Prelude.{ℕ, ◌+◌, ◌%◌, ◌≤◌, ◌<◌, ◌^◌, ◌≡◌, ◌↔◌, ◌≢◌, ◌⊎◌, true, List, [], ◌∷◌, ◌++◌, map, length, None, Some}
use Rattle.spec_octets.specs.Lists.{All, flatten}
use Rattle.spec_octets.specs.Octets.{Octets}
use Rattle.spec_octets.specs.Reader.{value_from}
use Rattle.spec_der.specs.Elements.{Element, wire_length, wire_element, element_length, element, elements, GoodElement}
use Rattle.spec_der.specs.Certificate.{max_certificate_octets, TbsCertificate, Certificate, wire_certificate, certificate}
use Rattle.spec_der.specs.Key.{is_certificate, key_part, before_key, after_key}
use Rattle.spec_der.specs.Edges.{length_edges, element_edges, certificate_edges}

-- The octets l give the length n: n itself if it is below 128, or the number of octets that follow plus 128, and then n in these octets, in network
-- byte order (X.690 sections 8.1.3.4 and 8.1.3.5). Zero octets may come first.
abbrev pub GivesLength : ℕ → List ℕ → Type 0
GivesLength n l =
    ((n < 128) × (l ≡ n ∷ [])) ⊎ ((more : List ℕ) × (more ≢ []) × (l ≡ (128 + length more) ∷ more) × (value_from 0 more ≡ n))

-- The length octets of n are the shortest that give n (X.690 section 10.1), and no others are as short.
abbrev pub LengthShortest : Type 0
LengthShortest =
    (n : ℕ) → n < 2 ^ 16 → (l : List ℕ) →
    (l ≡ wire_length n) ↔ (Octets l × GivesLength n l × ((m : List ℕ) → Octets m → GivesLength n m → length l ≤ length m))

-- A length is read exactly where it is written, up to 65,535.
abbrev pub LengthIsItsForm : Type 0
LengthIsItsForm =
    (s : List ℕ) (n : ℕ) (rest : List ℕ) → (element_length s ≡ Some (n, rest)) ↔ ((s ≡ wire_length n ++ rest) × (n < 2 ^ 16))

-- An element is read exactly where it is written.
abbrev pub ElementIsItsForm : Type 0
ElementIsItsForm =
    (s : List ℕ) (e : Element) (rest : List ℕ) → (element s ≡ Some (e, rest)) ↔ ((s ≡ wire_element e ++ rest) × GoodElement e)

-- Octets are elements exactly when they are these elements written one after the other. Nothing is left.
abbrev pub ElementsEndToEnd : Type 0
ElementsEndToEnd =
    (s : List ℕ) (es : List Element) (rest : List ℕ) →
    (elements s ≡ Some (es, rest)) ↔ ((s ≡ flatten (map wire_element es)) × (rest ≡ []) × All GoodElement es)

-- An element with one tag octet: the low five bits are not all set.
abbrev pub Short : Element → Type 0
Short e = e.tag % 32 ≢ 31

-- The tags that the layout asks for: perhaps 160 (A0), then 2, then five times 48 (30), the last of these the key. All other elements may have
-- any tag of one octet.
abbrev pub TbsLayout : TbsCertificate → Type 0
TbsLayout t =
    ((t.version ≡ None) ⊎ ((v : Element) × (t.version ≡ Some v) × (v.tag ≡ 160)))
    × (t.serial_number.tag ≡ 2) × (t.signature.tag ≡ 48) × (t.issuer.tag ≡ 48) × (t.validity.tag ≡ 48)
    × (t.subject.tag ≡ 48) × (t.subject_public_key_info.tag ≡ 48) × All Short t.others

abbrev pub Layout : Certificate → Type 0
Layout c = TbsLayout c.tbs_certificate × Short c.signature_algorithm × Short c.signature_value

-- The octets s are the certificate c, and not too many.
abbrev pub LaidOut : List ℕ → Certificate → Type 0
LaidOut s c = (s ≡ wire_certificate c) × Layout c × (length s ≤ max_certificate_octets)

-- Octets are read as a certificate exactly when they are that certificate written, and nothing else. So no octets are two certificates.
abbrev pub CertificateIsItsLayout : Type 0
CertificateIsItsLayout = (s : List ℕ) (c : Certificate) → (certificate s ≡ Some c) ↔ LaidOut s c

-- The key part is empty exactly when the octets are no certificate. Otherwise it is the key of the certificate that they are, where it stands.
abbrev pub KeyPartTells : Type 0
KeyPartTells =
    (s : List ℕ) →
    ((key_part s ≡ []) ↔ ((c : Certificate) → LaidOut s c → ⊥))
    × ((is_certificate s ≡ true) ↔ ((c : Certificate) × LaidOut s c))
    × ((c : Certificate) → LaidOut s c →
    (key_part s ≡ wire_element c.tbs_certificate.subject_public_key_info) × (s ≡ before_key c ++ key_part s ++ after_key c))

-- The tables of Edges.antt.
abbrev pub LengthEdges : Type 0
LengthEdges = map (λ r. element_length r.0) length_edges ≡ map (λ r. r.1) length_edges

abbrev pub ElementEdges : Type 0
ElementEdges = map (λ r. element r.0) element_edges ≡ map (λ r. r.1) element_edges

abbrev pub CertificateEdges : Type 0
CertificateEdges = map (λ r. key_part r.0) certificate_edges ≡ map (λ r. r.1) certificate_edges
