-- The way through a signed body, element by element, ends at its key exactly when the body is laid out as it must be.
use Rattle.read_tbs.specs.declared.KeyAt.{KeyAt}
use Rattle.std.proofs.lemmas.Option.{none-some}
use Rattle.std.specs.Prelude.{Option, None, Some}
use Prim.Native.Nat.{ℕ, ◌+◌, ◌-◌, ◌≤◌}
use native.Mathlib.Omega.{arith}
use mathlib.Core.Path.{◌≡◌, refl, sym, ap, ◌∙◌}
use mathlib.Core.Bool.{Bool, true, false, cond}
use mathlib.Core.List.{List, [], ◌++◌}
use lib.ListN.{length, drop, length-append}
use Rattle.spec_octets.proofs.ReaderLaws.{bind_some, pure_some}
use Rattle.spec_der.specs.Elements.{Element, wire_element, tagged, elements}
use Rattle.spec_der.specs.Certificate.{TbsCertificate, wire_version, version, tbs_certificate}
use Rattle.spec_der.specs.Key.{before_in_tbs}
use Rattle.spec_der.proofs.Forms.{next_read, next_stand}
use Rattle.spec_der.proofs.ElementLaws.{GoodTagged, tagged_form, tagged_is_its_form, elements_end_to_end, contents_fit}
use Rattle.spec_der.proofs.TbsLaws.{version_read}
use Rattle.read_element.proofs.LengthWays.{drop_front, long_front}
use Rattle.read_tbs.specs.Places.{end_place, past, start, are_elements, key_between, key_places, key_in_tbs}
use Rattle.read_tbs.proofs.ElementWalk.{are_elements_lem}

module _ (s : List ℕ) where
  -- the walk has come to offset p, and `left` are the octets from there on
  pub record Reached (o : Option ℕ) (p : ℕ) (left : List ℕ) : Type 0 where
    pub place : o ≡ Some p
    pub rest : drop p s ≡ left

  -- the offset after what was read is the one where the octets left begin
  ended : (p : ℕ) (w left : List ℕ) → drop p s ≡ w ++ left → p ≤ length s → length s - length left ≡ p + length w
  ended p w left e h = omega (arith, long_front s p w left e)

  pub step :
      (t : ℕ) (o o' : Option ℕ) (p : ℕ) (mid left : List ℕ) (e : Element) → o' ≡ past (tagged t) s o → Reached o p mid → mid ≡ wire_element e ++ left →
      GoodTagged t e → Reached o' (p + length (wire_element e)) left
  step t o o' p mid left e f r front good =
      let here : drop p s ≡ wire_element e ++ left = r.rest ∙ front in
      let read = (tagged_is_its_form t (drop p s) e left).1 (here, good) in
      let inside = long_front s p (wire_element e) left here in
      let place : length s - length left ≡ p + length (wire_element e) = ended p (wire_element e) left here (omega (arith, contents_fit e)) in
      record { place = f ∙ rw (r.place, read, place); rest = drop_front s p (wire_element e) left here }

  -- the version is passed, or there is none
  pub begun :
      (o : Option ℕ) (v : Option Element) (left : List ℕ) → o ≡ past version s start → version s ≡ Some (v, left) →
      Reached o (length (wire_version v)) left
  begun o v left f read =
      let front = (version_read s v left read).0 in
      let place : length s - length left ≡ length (wire_version v) = omega (arith, ap length front, length-append (wire_version v) left) in
      record { place = f ∙ rw (read, place); rest = rw front (lib.Seq.drop-append_seam (wire_version v) left) }

  -- a place that was reached: what stands before it
  passed :
      {C : Type 0} (t : ℕ) (o o' : Option ℕ) (q : ℕ) → o' ≡ past (tagged t) s o → o' ≡ Some q →
      ((p : ℕ) (e : Element) → o ≡ Some p → drop p s ≡ wire_element e ++ drop q s → GoodTagged t e → C) → C
  passed {C} t o o' q f g next = go o refl (sym f ∙ g)
    where
      found : (p : ℕ) (e : Element) (left : List ℕ) → o ≡ Some p → tagged t (drop p s) ≡ Some (e, left) → Some (length s - length left) ≡ Some q → C
      found p e left h read same =
          let (front, good) = (tagged_is_its_form t (drop p s) e left).0 read in
          let l = long_front s p (wire_element e) left front in
          let place : length s - length left ≡ q = cc in
          let also = ended p (wire_element e) left front (omega (arith, contents_fit e)) in
          let behind : drop q s ≡ left = rw (← place, also) (drop_front s p (wire_element e) left front) in
          next p e h (rw behind front) good

      by : (p : ℕ) → o ≡ Some p → (r : Option (Element × List ℕ)) → tagged t (drop p s) ≡ r → end_place s r ≡ Some q → C
      by p h None read e = let z : ◌≡◌ {A = ℕ} 0 1 = cc in absurd (omega arith)
      by p h (Some r) read e = found p r.0 r.1 h read e

      go : (x : Option ℕ) → o ≡ x → past (tagged t) s x ≡ Some q → C
      go (Some p) h e = by p h (tagged t (drop p s)) refl e
      go None h e = let z : ◌≡◌ {A = ℕ} 0 1 = cc in absurd (omega arith)

  first : {C : Type 0} (o : Option ℕ) (p : ℕ) → o ≡ past version s start → o ≡ Some p → ((v : Option Element) → version s ≡ Some (v, drop p s) → C) → C
  first {C} o p f g next = go (version s) refl (sym f ∙ g)
    where
      found : (v : Option Element) (left : List ℕ) → version s ≡ Some (v, left) → C
      found v left read =
          let r = begun o v left f read in
          let same : Some (length (wire_version v)) ≡ Some p = sym r.place ∙ g in
          let place : length (wire_version v) ≡ p = cc in
          next v (rw (← place, r.rest) read)

      go : (x : Option (Option Element × List ℕ)) → version s ≡ x → end_place s x ≡ Some p → C
      go None read e = let z : ◌≡◌ {A = ℕ} 0 1 = cc in absurd (omega arith)
      go (Some x) read e = found x.0 x.1 read

  module _
      (serial signature issuer validity subject key others : Option ℕ) (f₀ : serial ≡ past version s start) (f₁ : signature ≡ past (tagged 2) s serial)
      (f₂ : issuer ≡ past (tagged 48) s signature) (f₃ : validity ≡ past (tagged 48) s issuer) (f₄ : subject ≡ past (tagged 48) s validity)
      (f₅ : key ≡ past (tagged 48) s subject) (f₆ : others ≡ past (tagged 48) s key) where
    -- the body is laid out, so the walk ends at its key
    laid_out : (t : TbsCertificate) (rest : List ℕ) → tbs_certificate s ≡ Some (t, rest) → key_between s key others ≡ key_places (Some (t, rest))
    unfolding tbs_certificate
    laid_out t rest h =
        let (v, s₁, h₁, r₁) = (bind_some version _ s t rest).0 h in
        next_read (tagged_form 2) _ r₁ (λ e₁ s₂ w₁ g₁ r₂.
        next_read (tagged_form 48) _ r₂ (λ e₂ s₃ w₂ g₂ r₃.
        next_read (tagged_form 48) _ r₃ (λ e₃ s₄ w₃ g₃ r₄.
        next_read (tagged_form 48) _ r₄ (λ e₄ s₅ w₄ g₄ r₅.
        next_read (tagged_form 48) _ r₅ (λ e₅ s₆ w₅ g₅ r₆.
        next_read (tagged_form 48) _ r₆ (λ e₆ s₇ w₆ g₆ r₇.
        let (es, s₈, h₈, r₈) = (bind_some elements _ s₇ t rest).0 r₇ in
        let at₀ = begun serial v s₁ f₀ h₁ in
        let at₁ = step 2 serial signature _ s₁ s₂ e₁ f₁ at₀ w₁ g₁ in
        let at₂ = step 48 signature issuer _ s₂ s₃ e₂ f₂ at₁ w₂ g₂ in
        let at₃ = step 48 issuer validity _ s₃ s₄ e₃ f₃ at₂ w₃ g₃ in
        let at₄ = step 48 validity subject _ s₄ s₅ e₄ f₄ at₃ w₄ g₄ in
        let at₅ = step 48 subject key _ s₅ s₆ e₅ f₅ at₄ w₅ g₅ in
        let at₆ = step 48 key others _ s₆ s₇ e₆ f₆ at₅ w₆ g₆ in
        last _ _ s₆ s₇ es s₈ at₅ at₆ h₈ _ ((pure_some _ t s₈ rest).0 r₈).0 (simp length-append) refl))))))
      where
        last :
            (p q : ℕ) (s₆ s₇ : List ℕ) (es : List Element) (s₈ : List ℕ) → Reached key p s₆ → Reached others q s₇ → elements s₇ ≡ Some (es, s₈) →
            (made : TbsCertificate) → made ≡ t → length (before_in_tbs made) ≡ p → q ≡ p + length (wire_element made.subject_public_key_info) →
            key_between s key others ≡ key_places (Some (t, rest))
        last p q s₆ s₇ es s₈ a b h made same from to =
            rw (← same, from, ← to, a.place, b.place, b.rest, pass s₇ es s₈ h)
          where
            pass : (s₇ : List ℕ) (es : List Element) (s₈ : List ℕ) → elements s₇ ≡ Some (es, s₈) → are_elements s₇ ≡ true
            pass s₇ es s₈ h = let (front, nil, good) = (elements_end_to_end s₇ es s₈).0 h in (are_elements_lem s₇).1 (es, front, good)

    -- the walk ends at a key, so the body is laid out
    walked : (p q : ℕ) → key ≡ Some p → others ≡ Some q → are_elements (drop q s) ≡ true → (t : TbsCertificate) × (tbs_certificate s ≡ Some (t, []))
    unfolding tbs_certificate
    walked p q k o more =
        passed 48 key others q f₆ o (λ p₅ e₆ k₅ w₆ g₆.
        passed 48 subject key p₅ f₅ k₅ (λ p₄ e₅ k₄ w₅ g₅.
        passed 48 validity subject p₄ f₄ k₄ (λ p₃ e₄ k₃ w₄ g₄.
        passed 48 issuer validity p₃ f₃ k₃ (λ p₂ e₃ k₂ w₃ g₃.
        passed 48 signature issuer p₂ f₂ k₂ (λ p₁ e₂ k₁ w₂ g₂.
        passed 2 serial signature p₁ f₁ k₁ (λ p₀ e₁ k₀ w₁ g₁.
        first serial p₀ f₀ k₀ (λ v read.
        let (es, front, good) = (are_elements_lem (drop q s)).0 more in (
          _,
          (bind_some version _ s _ []).1 (
            v,
            drop p₀ s,
            read,
            next_stand (tagged_form 2) _ e₁ (drop p₁ s) w₁ g₁
                (next_stand (tagged_form 48) _ e₂ (drop p₂ s) w₂ g₂
                (next_stand (tagged_form 48) _ e₃ (drop p₃ s) w₃ g₃
                (next_stand (tagged_form 48) _ e₄ (drop p₄ s) w₄ g₄
                (next_stand (tagged_form 48) _ e₅ (drop p₅ s) w₅ g₅
                (next_stand (tagged_form 48) _ e₆ (drop q s) w₆ g₆
                ((bind_some elements _ (drop q s) _ []).1 (es, [], (elements_end_to_end (drop q s) es []).1 (front, refl, good), refl))))))),
          ),
        ))))))))

    walk : key_between s key others ≡ key_in_tbs s
    unfolding key_in_tbs
    walk = go (tbs_certificate s) refl
      where
        unread : tbs_certificate s ≡ None → (first last : Option ℕ) → key ≡ first → others ≡ last → key_between s first last ≡ None
        unread h (Some p) (Some q) k o = by (are_elements (drop q s)) refl
          where
            by : (t : Bool) → are_elements (drop q s) ≡ t → cond {A = Option KeyAt} t (Some (record { from = p; to = q })) None ≡ None
            by true e = let (t, read) = walked p q k o e in absurd (none-some _ (sym h ∙ read))
            by false e = refl
        unread h (Some p) None k o = refl
        unread h None last k o = refl

        go : (x : Option (TbsCertificate × List ℕ)) → tbs_certificate s ≡ x → key_between s key others ≡ key_places x
        go None h = unread h key others refl refl
        go (Some x) h = laid_out x.0 x.1 h

    pub tbs_walk : (r : Option KeyAt) → r ≡ key_between s key others → r ≡ key_in_tbs s
    tbs_walk r e = e ∙ walk

-- a law for each return of key_in_tbs
module _ (s : List ℕ) (a : ℕ) (f₀ : past version s start ≡ Some a) where
  pub no_signature : None ≡ past (tagged 2) s (Some a) → None ≡ key_in_tbs s
  no_signature h = tbs_walk s (Some a) None None None None None None (sym f₀) h refl refl refl refl refl None refl

  module _ (b : ℕ) (f₁ : Some b ≡ past (tagged 2) s (Some a)) where
    pub no_issuer : None ≡ past (tagged 48) s (Some b) → None ≡ key_in_tbs s
    no_issuer h = tbs_walk s (Some a) (Some b) None None None None None (sym f₀) f₁ h refl refl refl refl None refl

    module _ (c : ℕ) (f₂ : Some c ≡ past (tagged 48) s (Some b)) where
      pub no_validity : None ≡ past (tagged 48) s (Some c) → None ≡ key_in_tbs s
      no_validity h = tbs_walk s (Some a) (Some b) (Some c) None None None None (sym f₀) f₁ f₂ h refl refl refl None refl

      module _ (d : ℕ) (f₃ : Some d ≡ past (tagged 48) s (Some c)) where
        pub no_subject : None ≡ past (tagged 48) s (Some d) → None ≡ key_in_tbs s
        no_subject h = tbs_walk s (Some a) (Some b) (Some c) (Some d) None None None (sym f₀) f₁ f₂ f₃ h refl refl None refl

        module _ (e : ℕ) (f₄ : Some e ≡ past (tagged 48) s (Some d)) where
          pub no_from : None ≡ past (tagged 48) s (Some e) → None ≡ key_in_tbs s
          no_from h = tbs_walk s (Some a) (Some b) (Some c) (Some d) (Some e) None None (sym f₀) f₁ f₂ f₃ f₄ h refl None refl

          module _ (f : ℕ) (f₅ : Some f ≡ past (tagged 48) s (Some e)) where
            pub no_to : None ≡ past (tagged 48) s (Some f) → None ≡ key_in_tbs s
            no_to h = tbs_walk s (Some a) (Some b) (Some c) (Some d) (Some e) (Some f) None (sym f₀) f₁ f₂ f₃ f₄ f₅ h None refl

            module _ (g : ℕ) (f₆ : Some g ≡ past (tagged 48) s (Some f)) where
              ends : (t : Bool) (r : Option KeyAt) → t ≡ are_elements (drop g s) → r ≡ cond {A = Option KeyAt} t (Some (record { from = f; to = g })) None → r ≡ key_in_tbs s
              ends t r u k = tbs_walk s (Some a) (Some b) (Some c) (Some d) (Some e) (Some f) (Some g) (sym f₀) f₁ f₂ f₃ f₄ f₅ f₆ r (k ∙ rw u)

              pub key_read : true ≡ are_elements (drop g s) → Some (record { from = f; to = g }) ≡ key_in_tbs s
              key_read u = ends true (Some (record { from = f; to = g })) u refl

              pub others_broken : false ≡ are_elements (drop g s) → None ≡ key_in_tbs s
              others_broken u = ends false None u refl
