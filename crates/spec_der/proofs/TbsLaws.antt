-- The signed body of a certificate is read exactly where it is written.
use Rattle.std.specs.Prelude.{Option, None, Some}
use Prim.Native.Nat.{ℕ}
use mathlib.Core.Path.{◌≡◌, refl, sym, ◌∙◌}
use mathlib.Core.Logic.{◌↔◌, ◌≢◌, ◌⊎◌, inl, inr}
use mathlib.Core.Bool.{Bool, true, false, cond}
use mathlib.Core.List.{List, [], ◌++◌, append_assoc}
use lib.Dec.{eqb}
use borrow.Author.Tests.{eqb-true, eq-eqb, ne_eqb}
use Rattle.spec_octets.specs.Lists.{All}
use Rattle.spec_octets.specs.Reader.{pure}
use Rattle.spec_octets.proofs.ReaderLaws.{bind_some, pure_some}
use Rattle.spec_der.specs.Elements.{Element, wire_element, element, elements, GoodElement}
use Rattle.spec_der.specs.Certificate.{integer, sequence, version_tag, TbsCertificate, wire_version, wire_elements, wire_tbs, as_version, version, tbs_certificate}
use Rattle.spec_der.proofs.Forms.{next_read, next_stand}
use Rattle.spec_der.proofs.ElementLaws.{element_is_its_form, GoodTagged, tagged_form, element_parts, elements_end_to_end}

abbrev pub GoodVersion : Option Element → Type 0
GoodVersion v = (v ≡ None) ⊎ ((e : Element) × (v ≡ Some e) × GoodTagged 160 e)

module _ (s : List ℕ) where
  pub version_read : (v : Option Element) (mid : List ℕ) → version s ≡ Some (v, mid) → (s ≡ wire_version v ++ mid) × GoodVersion v
  unfolding version
  version_read v mid = go (element s) refl
    where
      nothing : pure None s ≡ Some (v, mid) → (s ≡ wire_version v ++ mid) × GoodVersion v
      nothing h = let (p, q) = (pure_some None v s mid).0 h in absent p q
        where
          absent : None ≡ v → s ≡ mid → (s ≡ wire_version v ++ mid) × GoodVersion v
          absent p q = rw (← p) (q, inl refl)

      by :
          (e : Element) (r : List ℕ) → element s ≡ Some (e, r) → (t : Bool) → eqb e.tag version_tag ≡ t →
          cond t (pure (Some e) r) (pure None s) ≡ Some (v, mid) → (s ≡ wire_version v ++ mid) × GoodVersion v
      by e r f true g h = let (p, q) = (pure_some (Some e) v r mid).0 h in there p q ((element_is_its_form s e r).0 f)
        where
          there : Some e ≡ v → r ≡ mid → (s ≡ wire_element e ++ r) × GoodElement e → (s ≡ wire_version v ++ mid) × GoodVersion v
          there p q k = rw (← p, ← q) (k.0, inr (e, refl, (k.1, eqb-true e.tag version_tag g)))
      by e r f false g h = nothing h

      go :
          (o : Option (Element × List ℕ)) → element s ≡ o →
          as_version s o ≡ Some (v, mid) → (s ≡ wire_version v ++ mid) × GoodVersion v
      go None f h = nothing h
      go (Some r) f h = by r.0 r.1 f (eqb r.0.tag version_tag) refl h

  pub version_there : (e : Element) (mid : List ℕ) → s ≡ wire_element e ++ mid → GoodTagged 160 e → version s ≡ Some (Some e, mid)
  unfolding version
  version_there e mid front good = rw ((element_is_its_form s e mid).1 (front, good.0), eq-eqb e.tag version_tag good.1)

  pub version_absent : (e : Element) (mid : List ℕ) → s ≡ wire_element e ++ mid → e.tag ≢ 160 → version s ≡ Some (None, s)
  unfolding version
  version_absent e mid front other = go (element s) refl
    where
      go :
          (o : Option (Element × List ℕ)) → element s ≡ o →
          as_version s o ≡ Some (None, s)
      go None f = refl
      go (Some r) f =
          let front' = ((element_is_its_form s r.0 r.1).0 f).0 in
          let same = sym (element_parts e mid) ∙ sym front ∙ front' ∙ element_parts r.0 r.1 in
          let head : e.tag ≡ r.0.tag = cc in
          rw (ne_eqb r.0.tag version_tag (λ z. other (head ∙ z)))

-- every part can be written
abbrev pub TbsGood : TbsCertificate → Type 0
TbsGood t =
    GoodVersion t.version × GoodTagged 2 t.serial_number × GoodTagged 48 t.signature × GoodTagged 48 t.issuer
    × GoodTagged 48 t.validity × GoodTagged 48 t.subject × GoodTagged 48 t.subject_public_key_info × All GoodElement t.others

abbrev after_version : TbsCertificate → List ℕ
after_version t =
    wire_element t.serial_number ++ (wire_element t.signature ++ (wire_element t.issuer ++ (wire_element t.validity
    ++ (wire_element t.subject ++ (wire_element t.subject_public_key_info ++ wire_elements t.others)))))

pub tbs_fields : (t : TbsCertificate) → wire_tbs t ≡ wire_version t.version ++ after_version t
unfolding wire_tbs
tbs_fields t = simp append_assoc

pub tbs_is_its_form :
    (s : List ℕ) (t : TbsCertificate) (rest : List ℕ) → (tbs_certificate s ≡ Some (t, rest)) ↔ ((s ≡ wire_tbs t) × (rest ≡ []) × TbsGood t)
unfolding tbs_certificate
tbs_is_its_form s t rest = (read, λ h. stand h.0 h.1 h.2)
  where
    Stands : TbsCertificate → List ℕ → Type 0
    Stands t rest = (s ≡ wire_tbs t) × (rest ≡ []) × TbsGood t

    last :
        (a b c d e f g : List ℕ) (made : TbsCertificate) → s ≡ wire_version made.version ++ a → a ≡ wire_element made.serial_number ++ b →
        b ≡ wire_element made.signature ++ c → c ≡ wire_element made.issuer ++ d → d ≡ wire_element made.validity ++ e →
        e ≡ wire_element made.subject ++ f → f ≡ wire_element made.subject_public_key_info ++ g → g ≡ wire_elements made.others →
        TbsGood made → (h : List ℕ) → h ≡ [] → (made ≡ t) × (h ≡ rest) → Stands t rest
    last a b c d e f g made e₁ e₂ e₃ e₄ e₅ e₆ e₇ e₈ good h k same =
        rw (← same.0, ← same.1) (cc (tbs_fields made), k, good)

    read : tbs_certificate s ≡ Some (t, rest) → Stands t rest
    read h =
        let (v, s₁, h₁, r₁) = (bind_some version _ s t rest).0 h in
        let (e₁, g₁) = version_read s v s₁ h₁ in
        next_read (tagged_form integer) _ r₁ (λ serial s₂ e₂ g₂ r₂.
        next_read (tagged_form sequence) _ r₂ (λ signature s₃ e₃ g₃ r₃.
        next_read (tagged_form sequence) _ r₃ (λ issuer s₄ e₄ g₄ r₄.
        next_read (tagged_form sequence) _ r₄ (λ validity s₅ e₅ g₅ r₅.
        next_read (tagged_form sequence) _ r₅ (λ subject s₆ e₆ g₆ r₆.
        next_read (tagged_form sequence) _ r₆ (λ key s₇ e₇ g₇ r₇.
        let (others, s₈, h₈, r₈) = (bind_some elements _ s₇ t rest).0 r₇ in
        let (e₈, k, g₈) = (elements_end_to_end s₇ others s₈).0 h₈ in
        last s₁ s₂ s₃ s₄ s₅ s₆ s₇ _ e₁ e₂ e₃ e₄ e₅ e₆ e₇ e₈ (g₁, g₂, g₃, g₄, g₅, g₆, g₇, g₈) s₈ k ((pure_some _ t s₈ rest).0 r₈)))))))

    versioned : s ≡ wire_version t.version ++ after_version t → TbsGood t → version s ≡ Some (t.version, after_version t)
    versioned front good = by t.version refl good.0
      where
        by : (v : Option Element) → t.version ≡ v → GoodVersion v → version s ≡ Some (t.version, after_version t)
        by v e (inl n) =
            let front' : s ≡ after_version t = front ∙ rw (e, n) in
            let other : t.serial_number.tag ≢ 160 = λ z. omega (native.Mathlib.Omega.arith, good.1.1) in
            version_absent s t.serial_number _ front' other ∙ rw (e, n, ← front')
        by v e (inr k) =
            let here : t.version ≡ Some k.0 = e ∙ k.1 in
            version_there s k.0 (after_version t) (front ∙ rw here) k.2 ∙ rw here

    stand : s ≡ wire_tbs t → rest ≡ [] → TbsGood t → tbs_certificate s ≡ Some (t, rest)
    stand front nil good =
        let (g₁, g₂, g₃, g₄, g₅, g₆, g₇, g₈) = good in
        (bind_some version _ s t rest).1 (
          t.version,
          after_version t,
          versioned (front ∙ tbs_fields t) good,
          next_stand (tagged_form integer) _ t.serial_number _ refl g₂
              (next_stand (tagged_form sequence) _ t.signature _ refl g₃
              (next_stand (tagged_form sequence) _ t.issuer _ refl g₄
              (next_stand (tagged_form sequence) _ t.validity _ refl g₅
              (next_stand (tagged_form sequence) _ t.subject _ refl g₆
              (next_stand (tagged_form sequence) _ t.subject_public_key_info _ refl g₇
              ((bind_some elements _ (wire_elements t.others) t rest).1 (
                t.others,
                [],
                (elements_end_to_end _ t.others []).1 (refl, refl, g₈),
                (pure_some _ t [] rest).1 (refl, sym nil),
              ))))))),
        )
