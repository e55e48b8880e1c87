-- The layout of a certificate (RFC 5280 section 4.1), as far down as its public key. Of the elements beside that way only tag and length are read.
use Rattle.std.specs.Prelude.{ℕ, cond, List, [], ◌∷◌, ◌++◌, map, eqb, leb, length, Option, None, Some}
use Rattle.spec_octets.specs.Lists.{flatten}
use Rattle.spec_octets.specs.Reader.{Reader, pure, ◌>>=◌}
use Rattle.spec_der.specs.Elements.{Element, wire_element, element, tagged, elements}

-- Tags: INTEGER, SEQUENCE, and the context-specific tag 0 of the version.
abbrev pub integer : ℕ
integer = 2

abbrev pub sequence : ℕ
sequence = 48

abbrev pub version_tag : ℕ
version_tag = 160

unfoldable pub max_certificate_octets : ℕ
max_certificate_octets = 16384

-- What the issuer signs. `others` are all elements after the key: unique identifiers and extensions.
pub record TbsCertificate : Type 0 where
  pub version : Option Element
  pub serial_number : Element
  pub signature : Element
  pub issuer : Element
  pub validity : Element
  pub subject : Element
  pub subject_public_key_info : Element
  pub others : List Element

pub record Certificate : Type 0 where
  pub tbs_certificate : TbsCertificate
  pub signature_algorithm : Element
  pub signature_value : Element

abbrev pub wire_sequence : List ℕ → List ℕ
wire_sequence d = wire_element (record { tag = sequence; contents = d })

abbrev pub wire_version : Option Element → List ℕ
wire_version None = []
wire_version (Some e) = wire_element e

abbrev pub wire_elements : List Element → List ℕ
wire_elements es = flatten (map wire_element es)

unfoldable pub wire_tbs : TbsCertificate → List ℕ
wire_tbs t =
    wire_version t.version ++ wire_element t.serial_number ++ wire_element t.signature ++ wire_element t.issuer
    ++ wire_element t.validity ++ wire_element t.subject ++ wire_element t.subject_public_key_info ++ wire_elements t.others

abbrev pub wire_contents : Certificate → List ℕ
wire_contents c = wire_sequence (wire_tbs c.tbs_certificate) ++ wire_element c.signature_algorithm ++ wire_element c.signature_value

abbrev pub wire_certificate : Certificate → List ℕ
wire_certificate c = wire_sequence (wire_contents c)

-- The version, if the octets begin with an element that has its tag. Otherwise nothing is read.
abbrev pub as_version : List ℕ → Option (Element × List ℕ) → Option (Option Element × List ℕ)
as_version s None = Some (None, s)
as_version s (Some r) = cond (eqb r.0.tag version_tag) (Some (Some r.0, r.1)) (Some (None, s))

unfoldable pub version : Reader (Option Element)
version s = as_version s (element s)

unfoldable pub tbs_certificate : Reader TbsCertificate
tbs_certificate = do
  v ← version
  serial ← tagged integer
  signature ← tagged sequence
  issuer ← tagged sequence
  validity ← tagged sequence
  subject ← tagged sequence
  key ← tagged sequence
  others ← elements
  pure (record {
    version = v;
    serial_number = serial;
    signature = signature;
    issuer = issuer;
    validity = validity;
    subject = subject;
    subject_public_key_info = key;
    others = others;
  })

-- The value that was read, if nothing is left after it.
abbrev pub filling : {A : Type 0} → Option (A × List ℕ) → Option A
filling None = None
filling (Some (a, [])) = Some a
filling (Some (a, x ∷ s)) = None

-- The contents of a SEQUENCE, all of them.
abbrev pub as_read : {A : Type 0} → Option A → Reader A
as_read None s = None
as_read (Some a) s = Some (a, s)

abbrev pub sequence_of : {A : Type 0} → Reader A → Reader A
sequence_of read = do
  e ← tagged sequence
  as_read (filling (read e.contents))

unfoldable pub certificate_contents : Reader Certificate
certificate_contents = do
  tbs ← sequence_of tbs_certificate
  algorithm ← element
  value ← element
  pure (record { tbs_certificate = tbs; signature_algorithm = algorithm; signature_value = value })

-- The certificate in s; none if s isn't laid out as one or has too many octets.
unfoldable pub certificate : List ℕ → Option Certificate
certificate s = cond (leb (length s) max_certificate_octets) (filling (sequence_of certificate_contents s)) None
