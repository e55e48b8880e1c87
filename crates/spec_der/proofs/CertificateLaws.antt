-- Octets are read as a certificate exactly when they are that certificate written.
use Rattle.std.proofs.lemmas.Option.{none-some, same_Some}
use Rattle.std.specs.Prelude.{Option, None, Some}
use Prim.Native.Nat.{ℕ, ◌+◌, ◌≤◌, ◌<◌, ◌^◌}
use native.Mathlib.Omega.{arith}
use mathlib.Core.Path.{◌≡◌, refl, sym, ap, ◌∙◌}
use mathlib.Core.Logic.{◌↔◌, ◌⊎◌, inl, inr}
use mathlib.Core.Bool.{Bool, true, false, cond}
use mathlib.Core.List.{List, [], ◌∷◌, ◌++◌, append_assoc, append-nil, cons≢nil}
use lib.Dec.{leb}
use lib.ListN.{length, length-append}
use borrow.Author.Tests.{leb-true, le-leb}
use Rattle.spec_octets.specs.Lists.{All, all_nil, all_cons}
use Rattle.spec_octets.specs.Reader.{Reader}
use Rattle.spec_octets.proofs.ListLaws.{All-imp}
use Rattle.spec_octets.proofs.ReaderLaws.{pure_some}
use Rattle.spec_der.specs.Elements.{Element, wire_element, GoodElement}
use Rattle.spec_der.specs.Certificate.{sequence, max_certificate_octets, TbsCertificate, Certificate, wire_sequence, wire_version, wire_elements, wire_tbs, wire_contents, wire_certificate, tbs_certificate, filling, as_read, sequence_of, certificate_contents, certificate}
use Rattle.spec_der.specs.Theorems.{Short, TbsLayout, Layout, LaidOut, CertificateIsItsLayout}
use Rattle.spec_der.proofs.Forms.{Form, next_read, next_stand}
use Rattle.spec_der.proofs.ElementLaws.{GoodTagged, element_form, tagged_form, contents_fit}
use Rattle.spec_der.proofs.TbsLaws.{GoodVersion, TbsGood, tbs_is_its_form}

module _ {A : Type 0} where
  pub filling_some : (o : Option (A × List ℕ)) (a : A) → (filling o ≡ Some a) ↔ (o ≡ Some (a, []))
  filling_some None a = (λ e. absurd (none-some _ e), λ e. absurd (none-some _ e))
  filling_some (Some (b, [])) a = (λ e. (pure_some b a [] []).1 (same_Some _ _ e, refl), λ e. ap Some ((pure_some b a [] []).0 e).0)
  filling_some (Some (b, x ∷ s)) a = (λ e. absurd (none-some _ e), λ e. absurd (cons≢nil ((pure_some b a (x ∷ s) []).0 e).1))

  as_read_lem : (o : Option A) (a : A) (mid rest : List ℕ) → (as_read o mid ≡ Some (a, rest)) ↔ ((o ≡ Some a) × (mid ≡ rest))
  as_read_lem None a mid rest = (λ e. absurd (none-some _ e), λ k. absurd (none-some _ k.0))
  as_read_lem (Some b) a mid rest = (
    λ e. let (p, q) = (pure_some b a mid rest).0 e in (ap Some p, q),
    λ k. (pure_some b a mid rest).1 (same_Some _ _ k.0, k.1),
  )

-- what fills the contents of a SEQUENCE
module _
    {A : Type 0} (read : Reader A) (wire : A → List ℕ) (Good : A → Type 0)
    (law : (d : List ℕ) (a : A) → (read d ≡ Some (a, [])) ↔ ((d ≡ wire a) × Good a)) where
  sequence_of_lem :
      (s : List ℕ) (a : A) (rest : List ℕ) →
      (sequence_of read s ≡ Some (a, rest)) ↔ ((s ≡ wire_sequence (wire a) ++ rest) × (Good a × (length (wire a) < 2 ^ 16)))
  sequence_of_lem s a rest = (found, λ h. stands h.0 h.1.0 h.1.1)
    where
      opened :
          (e : Element) (mid : List ℕ) → s ≡ wire_element e ++ mid → GoodTagged sequence e → (e.contents ≡ wire a) × Good a → mid ≡ rest →
          (s ≡ wire_sequence (wire a) ++ rest) × (Good a × (length (wire a) < 2 ^ 16))
      opened e mid front good h k =
          let same : e ≡ record { tag = sequence; contents = wire a } = both good.1 h.0 in
          (rw (← same, ← k) front, (h.1, rw (← h.0) good.0.1))
        where
          both : e.tag ≡ sequence → e.contents ≡ wire a → e ≡ record { tag = sequence; contents = wire a }
          both p q = rw (← p, ← q) refl

      found : sequence_of read s ≡ Some (a, rest) → (s ≡ wire_sequence (wire a) ++ rest) × (Good a × (length (wire a) < 2 ^ 16))
      found h =
          next_read (tagged_form sequence) _ h (λ e mid front good k.
          let (f, r) = (as_read_lem (filling (read e.contents)) a mid rest).0 k in
          opened e mid front good ((law e.contents a).0 ((filling_some (read e.contents) a).0 f)) r)

      stands : s ≡ wire_sequence (wire a) ++ rest → Good a → length (wire a) < 2 ^ 16 → sequence_of read s ≡ Some (a, rest)
      stands front good small =
          next_stand (tagged_form sequence) _ (record { tag = sequence; contents = wire a }) rest front ((λ z. omega arith, small), refl)
          ((as_read_lem (filling (read (wire a))) a rest rest).1 ((filling_some (read (wire a)) a).1 ((law (wire a) a).1 (refl, good)), refl))

  abbrev sequence_form : Form A
  sequence_form = record {
    read = sequence_of read;
    wire = λ a. wire_sequence (wire a);
    Good = λ a. Good a × (length (wire a) < 2 ^ 16);
    reads = sequence_of_lem;
  }

pub tbs_fills : (d : List ℕ) (t : TbsCertificate) → (tbs_certificate d ≡ Some (t, [])) ↔ ((d ≡ wire_tbs t) × TbsGood t)
tbs_fills d t = (λ h. let k = (tbs_is_its_form d t []).0 h in (k.0, k.2), λ h. (tbs_is_its_form d t []).1 (h.0, refl, h.1))

abbrev tbs_form : Form TbsCertificate
tbs_form = sequence_form tbs_certificate wire_tbs TbsGood tbs_fills

-- the contents of a certificate
contents_parts :
    (c : Certificate) →
    wire_contents c ≡ wire_sequence (wire_tbs c.tbs_certificate) ++ (wire_element c.signature_algorithm ++ wire_element c.signature_value)
contents_parts c = append_assoc (wire_sequence (wire_tbs c.tbs_certificate)) (wire_element c.signature_algorithm) (wire_element c.signature_value)

abbrev pub ContentsGood : Certificate → Type 0
ContentsGood c =
    (TbsGood c.tbs_certificate × (length (wire_tbs c.tbs_certificate) < 2 ^ 16)) × GoodElement c.signature_algorithm
    × GoodElement c.signature_value

pub contents_fill : (d : List ℕ) (c : Certificate) → (certificate_contents d ≡ Some (c, [])) ↔ ((d ≡ wire_contents c) × ContentsGood c)
unfolding certificate_contents
contents_fill d c = (read, λ h. stand h.0 h.1)
  where
    last :
        (a b e : List ℕ) (made : Certificate) → d ≡ wire_sequence (wire_tbs made.tbs_certificate) ++ a → a ≡ wire_element made.signature_algorithm ++ b →
        b ≡ wire_element made.signature_value ++ e → ContentsGood made → (made ≡ c) × (e ≡ []) → (d ≡ wire_contents c) × ContentsGood c
    last a b e made e₁ e₂ e₃ good same =
        rw (← same.0) (e₁ ∙ rw (e₂, e₃, same.1, append-nil) (sym (contents_parts made)), good)

    read : certificate_contents d ≡ Some (c, []) → (d ≡ wire_contents c) × ContentsGood c
    read h =
        next_read tbs_form _ h (λ tbs s₁ e₁ g₁ r₁.
        next_read element_form _ r₁ (λ algorithm s₂ e₂ g₂ r₂.
        next_read element_form _ r₂ (λ value s₃ e₃ g₃ r₃.
        last s₁ s₂ s₃ _ e₁ e₂ e₃ (g₁, g₂, g₃) ((pure_some _ c s₃ []).0 r₃))))

    stand : d ≡ wire_contents c → ContentsGood c → certificate_contents d ≡ Some (c, [])
    stand front good =
        let (g₁, g₂, g₃) = good in
        next_stand tbs_form _ c.tbs_certificate (wire_element c.signature_algorithm ++ wire_element c.signature_value) (front ∙ contents_parts c) g₁
        (next_stand element_form _ c.signature_algorithm (wire_element c.signature_value) refl g₂
        (next_stand element_form _ c.signature_value [] (sym (append-nil (wire_element c.signature_value))) g₃
        ((pure_some _ c [] []).1 (refl, refl))))

-- What stands in few octets can be written, if its tags are right.
good_elements : (es : List Element) → All Short es → length (wire_elements es) < 2 ^ 16 → All GoodElement es
good_elements [] all_nil h = all_nil
good_elements (e ∷ es) (all_cons short rest) h =
    let l = length-append (wire_element e) (wire_elements es) in
    all_cons {x = e} (short, omega (arith, contents_fit e)) (good_elements es rest (omega arith))

module _ (t : TbsCertificate) where
  good_tbs : TbsLayout t → length (wire_tbs t) < 2 ^ 16 → TbsGood t
  unfolding wire_tbs
  good_tbs h small = let (v, a, b, c, d, e, k, o) = h in (
    version t.version v (omega (arith, long)),
    ((λ z. omega arith, omega (arith, long, contents_fit t.serial_number)), a),
    ((λ z. omega arith, omega (arith, long, contents_fit t.signature)), b),
    ((λ z. omega arith, omega (arith, long, contents_fit t.issuer)), c),
    ((λ z. omega arith, omega (arith, long, contents_fit t.validity)), d),
    ((λ z. omega arith, omega (arith, long, contents_fit t.subject)), e),
    ((λ z. omega arith, omega (arith, long, contents_fit t.subject_public_key_info)), k),
    good_elements t.others o (omega (arith, long)),
  )
    where
      long :
          length (wire_tbs t)
          ≡ length (wire_version t.version) + length (wire_element t.serial_number) + length (wire_element t.signature)
          + length (wire_element t.issuer) + length (wire_element t.validity) + length (wire_element t.subject)
          + length (wire_element t.subject_public_key_info) + length (wire_elements t.others)
      long = simp length-append

      version :
          (w : Option Element) → (w ≡ None) ⊎ ((v : Element) × (w ≡ Some v) × (v.tag ≡ 160)) → length (wire_version w) < 2 ^ 16 → GoodVersion w
      version w (inl e) h = inl e
      version w (inr k) h =
          let l = rw k.1 at h in
          inr (k.0, k.1, ((λ z. omega (arith, k.2), omega (arith, contents_fit k.0)), k.2))

  tbs_layout : TbsGood t → TbsLayout t
  tbs_layout h = let (v, a, b, c, d, e, k, o) = h in (version v, a.1, b.1, c.1, d.1, e.1, k.1, All-imp (λ x g. g.0) o)
    where
      version : GoodVersion t.version → (t.version ≡ None) ⊎ ((v : Element) × (t.version ≡ Some v) × (v.tag ≡ 160))
      version (inl e) = inl e
      version (inr k) = inr (k.0, k.1, k.2.1)

-- a SEQUENCE is longer than its contents
sequence_fits : (d : List ℕ) → length d < length (wire_sequence d)
sequence_fits d = contents_fit (record { tag = sequence; contents = d })

pub certificate_is_its_layout : CertificateIsItsLayout
unfolding certificate max_certificate_octets
certificate_is_its_layout s c = (go (leb (length s) max_certificate_octets) refl, λ h. stand h.0 h.1 h.2)
  where
    go : (t : Bool) → leb (length s) max_certificate_octets ≡ t → cond t (filling (sequence_of certificate_contents s)) None ≡ Some c → LaidOut s c
    go false e h = absurd (none-some _ h)
    go true e h =
        let (front, good) = (sequence_of_lem certificate_contents wire_contents ContentsGood contents_fill s c []).0 ((filling_some _ c).0 h) in
        let (tbs, a, v) = good.0 in
        (front ∙ append-nil (wire_certificate c), (tbs_layout c.tbs_certificate tbs.0, a.0, v.0), leb-true _ _ e)

    stand :
        s ≡ wire_certificate c → Layout c → length s ≤ max_certificate_octets →
        cond (leb (length s) max_certificate_octets) (filling (sequence_of certificate_contents s)) None ≡ Some c
    stand front layout few =
        let whole : length (wire_certificate c) ≤ 16384 = rw (← front) few in
        let inner = sequence_fits (wire_contents c) in
        let parts : length (wire_contents c) ≡ length (wire_sequence (wire_tbs c.tbs_certificate))
        + length (wire_element c.signature_algorithm) + length (wire_element c.signature_value) =
        simp length-append in
        let body = sequence_fits (wire_tbs c.tbs_certificate) in
        let (tbs, a, v) = layout in
        rw (le-leb (length s) 16384 few)
        ((filling_some _ c).1 ((sequence_of_lem certificate_contents wire_contents ContentsGood contents_fill s c []).1 (
          front ∙ sym (append-nil (wire_certificate c)),
          (
            (
              (good_tbs c.tbs_certificate tbs (omega arith), omega arith),
              (a, omega (arith, contents_fit c.signature_algorithm)),
              (v, omega (arith, contents_fit c.signature_value)),
            ),
            omega arith,
          ),
        )))
