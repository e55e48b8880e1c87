-- The tables of lengths, elements and certificates, by computing; and the forms.
use mathlib.Core.Path.{refl}
use Rattle.spec_der.specs.Elements.{wire_length, wire_element, element_length, is_short_tag, element, tagged, elements}
use Rattle.spec_der.specs.Certificate.{max_certificate_octets, wire_tbs, version, tbs_certificate, certificate_contents, certificate}
use Rattle.spec_der.specs.Key.{key_part}
use Rattle.spec_der.specs.Pinned.{ElementForm, TbsForm, CertificateForm, CertificateOctets}
use Rattle.spec_der.specs.Theorems.{LengthEdges, ElementEdges, CertificateEdges}

pub length_edges_lem : LengthEdges
unfolding wire_length element_length
length_edges_lem = refl

pub element_edges_lem : ElementEdges
unfolding wire_length element_length is_short_tag element
element_edges_lem = refl

pub certificate_edges_lem : CertificateEdges
unfolding wire_length wire_element element_length is_short_tag element tagged elements max_certificate_octets version tbs_certificate
    certificate_contents certificate key_part
certificate_edges_lem = refl

pub element_form : ElementForm
unfolding wire_element
element_form e = refl

pub tbs_form : TbsForm
unfolding wire_tbs
tbs_form = (refl, λ e. refl, λ t. refl)

pub certificate_form : CertificateForm
certificate_form c = refl

pub certificate_octets : CertificateOctets
unfolding max_certificate_octets
certificate_octets = refl
