-- The key part is the key of the certificate, where it stands, and is empty if the octets are no certificate.
use Rattle.std.specs.Prelude.{Option, None, Some}
use Prim.Native.Nat.{ℕ}
use mathlib.Core.Path.{◌≡◌, refl, sym, ap, ◌∙◌}
use mathlib.Core.Bool.{true, false≢true}
use mathlib.Core.List.{List, [], ◌++◌, append_assoc}
use Rattle.spec_der.specs.Elements.{wire_element}
use Rattle.spec_der.specs.Certificate.{TbsCertificate, Certificate, wire_sequence, wire_elements, wire_tbs, wire_contents, wire_certificate, certificate}
use Rattle.spec_der.specs.Key.{is_read, is_certificate, key_in, key_part, header, before_in_tbs, before_key, after_key}
use Rattle.spec_der.specs.Theorems.{LaidOut, KeyPartTells}
use Rattle.spec_der.proofs.ElementLaws.{full}
use Rattle.spec_der.proofs.CertificateLaws.{certificate_is_its_layout}

sequence_header : (d : List ℕ) → wire_sequence d ≡ header d ++ d
unfolding wire_element
sequence_header d = refl

tbs_around : (t : TbsCertificate) → wire_tbs t ≡ before_in_tbs t ++ wire_element t.subject_public_key_info ++ wire_elements t.others
unfolding wire_tbs
tbs_around t = refl

regroup : (a b c k d e f : List ℕ) → a ++ (b ++ (c ++ k ++ d) ++ e ++ f) ≡ a ++ b ++ c ++ k ++ (d ++ (e ++ f))
regroup a b c k d e f = simp append_assoc

pub key_stands : (c : Certificate) → wire_certificate c ≡ before_key c ++ wire_element c.tbs_certificate.subject_public_key_info ++ after_key c
key_stands c = outer ∙ inner c.tbs_certificate (header (wire_contents c)) (wire_element c.signature_algorithm) (wire_element c.signature_value)
  where
    outer : wire_certificate c ≡ header (wire_contents c) ++ wire_contents c
    outer = sequence_header (wire_contents c)

    inner :
        (t : TbsCertificate) (h a v : List ℕ) →
        h ++ (wire_sequence (wire_tbs t) ++ a ++ v)
        ≡ h ++ header (wire_tbs t) ++ before_in_tbs t ++ wire_element t.subject_public_key_info ++ (wire_elements t.others ++ (a ++ v))
    inner t h a v =
        ap (λ (x : List ℕ). h ++ (x ++ a ++ v)) (sequence_header (wire_tbs t) ∙ ap (λ (x : List ℕ). header (wire_tbs t) ++ x) (tbs_around t))
        ∙ regroup h (header (wire_tbs t)) (before_in_tbs t) (wire_element t.subject_public_key_info) (wire_elements t.others) a v

pub key_part_tells : KeyPartTells
unfolding key_part is_certificate
key_part_tells s = (
  (λ e c h. full _ (sym (part c h) ∙ e), nothing (certificate s) refl),
  (something (certificate s) refl, λ k. ap is_read (read k.0 k.1)),
  λ c h. (part c h, h.0 ∙ key_stands c ∙ ap (λ x. before_key c ++ x ++ after_key c) (sym (part c h))),
)
  where
    read : (c : Certificate) → LaidOut s c → certificate s ≡ Some c
    read c h = (certificate_is_its_layout s c).1 h

    part : (c : Certificate) → LaidOut s c → key_in (certificate s) ≡ wire_element c.tbs_certificate.subject_public_key_info
    part c h = ap key_in (read c h)

    nothing : (o : Option Certificate) → certificate s ≡ o → ((c : Certificate) → LaidOut s c → ⊥) → key_in o ≡ []
    nothing None e bad = refl
    nothing (Some c) e bad = absurd (bad c ((certificate_is_its_layout s c).0 e))

    something : (o : Option Certificate) → certificate s ≡ o → is_read o ≡ true → (c : Certificate) × LaidOut s c
    something None e h = absurd (false≢true h)
    something (Some c) e h = (c, (certificate_is_its_layout s c).0 e)
