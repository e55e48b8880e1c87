-- A law for each return of find_key, and what its callers know.
use Rattle.std.specs.Option.{is_some}
use Rattle.std.specs.Prelude.{Option, None, Some}
use Prim.Native.Nat.{ℕ, suc, ◌+◌, ◌-◌, ◌≤◌, ◌<◌}
use native.Mathlib.Omega.{arith}
use mir.Syntax.{w64}
use mir.Val.{Fits}
use mathlib.Core.Path.{◌≡◌, refl, sym, ap, ◌∙◌}
use mathlib.Core.Logic.{◌≢◌}
use mathlib.Core.Bool.{Bool, true, false, not, false≢true}
use mathlib.Core.List.{List, [], ◌∷◌, ◌++◌, append_assoc}
use lib.ListN.{length, take, drop, length-append, length-drop}
use lib.Seq.{drop-length, take_at, drop_at}
use borrow.Author.Tests.{le-leb, lt-leb, not-true, not-false}
use Rattle.spec_octets.specs.Reader.{Reader, pure, and_then, ◌>>=◌}
use Rattle.spec_octets.proofs.ReaderLaws.{fault_told}
use Rattle.spec_octets.proofs.Walks.{rest_whole}
use Rattle.spec_der.specs.Elements.{Element, wire_length, wire_element, element, tagged}
use Rattle.spec_der.specs.Certificate.{max_certificate_octets, TbsCertificate, Certificate, wire_tbs, wire_contents, tbs_certificate, filling, as_read, sequence_of, certificate_contents, certificate}
use Rattle.spec_der.specs.Key.{is_certificate, key_in, key_part, before_in_tbs, before_key, after_key, header}
use Rattle.spec_der.proofs.ElementLaws.{tagged_is_its_form}
use Rattle.spec_der.proofs.CertificateLaws.{filling_some, tbs_fills, contents_fill, certificate_is_its_layout}
use Rattle.spec_der.proofs.TbsLaws.{tbs_is_its_form}
use Rattle.spec_der.proofs.KeyLaws.{key_stands}
use Rattle.read_element.specs.declared.ElementAt.{ElementAt}
use Rattle.read_element.specs.Places.{tagged_at}
use Rattle.read_element.proofs.ElementPlaces.{ElementTo, no_tagged, tagged_there}
use Rattle.read_tbs.specs.declared.KeyAt.{KeyAt}
use Rattle.read_tbs.specs.Places.{key_in_tbs, key_places as tbsPlaces}
use Rattle.find_key.specs.Places.{was_read, two_elements, key_places, key_at}

-- what fills what is left
module _ {A : Type 0} where
  filling_all : (o : Option A) → filling (as_read o []) ≡ o
  filling_all None = refl
  filling_all (Some a) = refl

  filling_more : (o : Option A) (rest : List ℕ) → rest ≢ [] → filling (as_read o rest) ≡ None
  filling_more None rest n = refl
  filling_more (Some a) [] n = absurd (n refl)
  filling_more (Some a) (x ∷ rest) n = refl

-- two elements after the body, and the certificate that they make with it
module _ (t : TbsCertificate) where
  abbrev made : Element → Element → Certificate
  made a v = record { tbs_certificate = t; signature_algorithm = a; signature_value = v }

  abbrev ending : Reader Certificate
  ending = element >>= (λ a. element >>= (λ v. pure (made a v)))

  no_ending : (s : List ℕ) → was_read (filling ((element >>= (λ e. element)) s)) ≡ false → filling (ending s) ≡ None
  no_ending s = first (element s)
    where
      last : (a : Element) (r : Option (Element × List ℕ)) → was_read (filling r) ≡ false → filling (and_then r (λ v. pure (made a v))) ≡ None
      last a None h = refl
      last a (Some (v, [])) h = absurd (false≢true (sym h))
      last a (Some (v, x ∷ s)) h = refl

      first :
          (r : Option (Element × List ℕ)) → was_read (filling (and_then r (λ e. element))) ≡ false →
          filling (and_then r (λ a. element >>= (λ v. pure (made a v)))) ≡ None
      first None h = refl
      first (Some r) h = last r.0 (element r.1) h

  an_ending :
      (s : List ℕ) → was_read (filling ((element >>= (λ e. element)) s)) ≡ true →
      (a : Element) × (v : Element) × (filling (ending s) ≡ Some (made a v))
  an_ending s = first (element s)
    where
      last :
          (a : Element) (r : Option (Element × List ℕ)) → was_read (filling r) ≡ true →
          (b : Element) × (v : Element) × (filling (and_then r (λ v. pure (made a v))) ≡ Some (made b v))
      last a None h = absurd (false≢true h)
      last a (Some (v, [])) h = (a, v, refl)
      last a (Some (v, x ∷ s)) h = absurd (false≢true h)

      first :
          (r : Option (Element × List ℕ)) → was_read (filling (and_then r (λ e. element))) ≡ true →
          (a : Element) × (v : Element) × (filling (and_then r (λ a. element >>= (λ v. pure (made a v)))) ≡ Some (made a v))
      first None h = absurd (false≢true h)
      first (Some r) h = last r.0 (element r.1) h

-- the key ends inside the certificate
pub certificate_fits :
    (s : List ℕ) (c : Certificate) → certificate s ≡ Some c → length (before_key c) + length (wire_element c.tbs_certificate.subject_public_key_info) ≤ length s
certificate_fits s c e =
    let k = wire_element c.tbs_certificate.subject_public_key_info in
    let l : length s ≡ length (before_key c ++ k ++ after_key c) = ap length (((certificate_is_its_layout s c).0 e).0 ∙ key_stands c) in
    omega (arith, length-append (before_key c ++ k) (after_key c), length-append (before_key c) k)

before_long :
    (c : Certificate) →
    length (before_key c) ≡ length (header (wire_contents c)) + length (header (wire_tbs c.tbs_certificate)) + length (before_in_tbs c.tbs_certificate)
before_long c = go (header (wire_contents c)) (header (wire_tbs c.tbs_certificate)) (before_in_tbs c.tbs_certificate)
  where
    go : (a b d : List ℕ) → length (a ++ b ++ d) ≡ length a + length b + length d
    go a b d = rw (length-append (a ++ b) d, length-append a b)

module _ (s : List ℕ) where
  no_certificate : certificate s ≡ None → None ≡ key_at s
  unfolding key_at
  no_certificate e = rw e

  pub too_long : max_certificate_octets < length s → None ≡ key_at s
  unfolding certificate
  too_long h = no_certificate (rw (lt-leb (length s) max_certificate_octets h))

  module _ (few : length s ≤ max_certificate_octets) where
    by_whole : certificate s ≡ filling (sequence_of certificate_contents s)
    unfolding certificate
    by_whole = rw (le-leb (length s) max_certificate_octets few)

    pub no_whole : None ≡ tagged_at 48 s 0 → None ≡ key_at s
    no_whole f = let e : tagged 48 s ≡ None = no_tagged s 0 48 None f refl in no_certificate (by_whole ∙ rw e)

    module _ (p : ElementAt) (f : Some p ≡ tagged_at 48 s 0) where
      read_whole : (e : Element) → ElementTo s 0 p e → e.tag ≡ 48 → tagged 48 s ≡ Some (e, drop p.next s)
      read_whole e k t = (tagged_is_its_form 48 s e (drop p.next s)).1 (k.front, (k.good, t))

      pub octets_behind : p.next ≢ length s → None ≡ key_at s
      octets_behind n = let (e, k, t) = tagged_there s 0 48 (Some p) f p refl in by e k t
        where
          by : (e : Element) → ElementTo s 0 p e → e.tag ≡ 48 → None ≡ key_at s
          by e k t =
              let some_left : drop p.next s ≢ [] = λ z. n (omega (arith, ap length z, length-drop p.next s, k.inside)) in
              no_certificate (by_whole ∙ rw (read_whole e k t) (filling_more (filling (certificate_contents e.contents)) (drop p.next s) some_left))

      module _ (w : p.next ≡ length s) where
        -- the contents of the whole are all octets from their first on
        pub record Opened (e : Element) : Type 0 where
          pub inner : drop p.contents s ≡ e.contents
          pub begins : p.contents ≡ suc (length (wire_length (length e.contents)))
          pub same : certificate s ≡ filling (certificate_contents e.contents)

        opened : (e : Element) × Opened e
        opened = let (e, k, t) = tagged_there s 0 48 (Some p) f p refl in (e, by e k t)
          where
            by : (e : Element) → ElementTo s 0 p e → e.tag ≡ 48 → Opened e
            by e k t =
                let nothing : drop p.next s ≡ [] = rw w (drop-length s) in
                record {
                  inner = sym (rest_whole s p.contents) ∙ rw (← w) k.contents;
                  begins = omega (arith, k.begins);
                  same = by_whole ∙ rw (read_whole e k t, nothing) (filling_all (filling (certificate_contents e.contents)));
                }

        pub no_body : None ≡ tagged_at 48 s p.contents → None ≡ key_at s
        unfolding certificate_contents
        no_body f' =
            let (e, k) = opened in
            no_certificate (k.same ∙ rw (← k.inner, no_tagged s p.contents 48 None f' refl))

        module _ (q : ElementAt) (f' : Some q ≡ tagged_at 48 s p.contents) where
          -- what is left of the certificate: the body's contents, and the octets after it
          abbrev rest_of : List ℕ → Option Certificate
          rest_of d = filling (and_then (as_read (filling (tbs_certificate d)) (drop q.next s)) ending)

          pub record Body (d : List ℕ) : Type 0 where
            pub part : take (q.next - q.contents) (drop q.contents s) ≡ d
            pub begins : q.contents ≡ p.contents + suc (length (wire_length (length d)))
            pub order : q.contents ≤ q.next
            pub inside : q.next ≤ length s
            pub long : q.next - q.contents ≡ length d
            pub same : certificate s ≡ rest_of d

          body : (d : List ℕ) × Body d
          unfolding certificate_contents
          body =
              let (e, k) = opened in
              let (b, m, t) = tagged_there s p.contents 48 (Some q) f' q refl in
              (b.contents, by e k b m t)
            where
              by : (e : Element) → Opened e → (b : Element) → ElementTo s p.contents q b → b.tag ≡ 48 → Body b.contents
              by e k b m t =
                  let read = (tagged_is_its_form 48 (drop p.contents s) b (drop q.next s)).1 (m.front, (m.good, t)) in
                  record {
                    part = m.contents;
                    begins = m.begins;
                    order = m.order;
                    inside = m.inside;
                    long = m.count;
                    same = k.same ∙ rw (← k.inner, read);
                  }

          pub body_order : q.contents ≤ q.next
          body_order = body.1.order

          pub body_inside : q.next ≤ length s
          body_inside = body.1.inside

          module _ (two : Bool) (i : two ≡ two_elements (drop q.next s)) where
            pub not_two_behind : not two ≡ true → None ≡ key_at s
            unfolding two_elements
            not_two_behind h = let (d, k) = body in no_certificate (k.same ∙ by (filling (tbs_certificate d)))
              where
                by : (x : Option TbsCertificate) → filling (and_then (as_read x (drop q.next s)) ending) ≡ None
                by None = refl
                by (Some t) = no_ending t (drop q.next s) (sym i ∙ not-true two h)

            module _ (j : not two ≡ false) where
              pub no_key : None ≡ key_in_tbs (take (q.next - q.contents) (drop q.contents s)) → None ≡ key_at s
              unfolding key_in_tbs
              no_key l = let (d, k) = body in no_certificate (k.same ∙ by d (tbs_certificate d) refl (rw k.part at (sym l)))
                where
                  by : (d : List ℕ) (x : Option (TbsCertificate × List ℕ)) → tbs_certificate d ≡ x → tbsPlaces x ≡ None → rest_of d ≡ None
                  by d None e z = rw e
                  by d (Some x) e z = let y : ◌≡◌ {A = ℕ} 0 1 = cc in absurd (omega arith)

              module _ (key : KeyAt) (l : Some key ≡ key_in_tbs (take (q.next - q.contents) (drop q.contents s))) where
                -- the certificate, and where its key is
                pub record Found (c : Certificate) : Type 0 where
                  pub read : certificate s ≡ Some c
                  pub from : q.contents + key.from ≡ length (before_key c)
                  pub to : q.contents + key.to ≡ length (before_key c) + length (wire_element c.tbs_certificate.subject_public_key_info)

                found : (c : Certificate) × Found c
                unfolding key_in_tbs two_elements
                found = let (e, k) = opened in let (d, b) = body in by e k d b (tbs_certificate d) refl (rw b.part at (sym l))
                  where
                    made_of :
                        (e : Element) → Opened e → (d : List ℕ) → Body d → (t : TbsCertificate) → tbs_certificate d ≡ Some (t, []) →
                        (length (before_in_tbs t) ≡ key.from) → (length (before_in_tbs t) + length (wire_element t.subject_public_key_info) ≡ key.to) →
                        (a v : Element) → filling (ending t (drop q.next s)) ≡ Some (made t a v) → Found (made t a v)
                    made_of e k d b t read from to a v last =
                        let whole : certificate s ≡ Some (made t a v) = b.same ∙ rw read last in
                        let outer : e.contents ≡ wire_contents (made t a v) =
                        ((contents_fill e.contents (made t a v)).0 ((filling_some _ (made t a v)).0 (sym k.same ∙ whole))).0 in
                        let inner : d ≡ wire_tbs t = ((tbs_fills d t).0 read).0 in
                        let n₀ : p.contents ≡ suc (length (wire_length (length (wire_contents (made t a v))))) = rw (← outer) k.begins in
                        let n₁ : q.contents ≡ p.contents + suc (length (wire_length (length (wire_tbs t)))) = rw (← inner) b.begins in
                        let sum = before_long (made t a v) in
                        record { read = whole; from = omega arith; to = omega arith }

                    by :
                        (e : Element) → Opened e → (d : List ℕ) → Body d → (x : Option (TbsCertificate × List ℕ)) → tbs_certificate d ≡ x →
                        tbsPlaces x ≡ Some key → (c : Certificate) × Found c
                    by e k d b None read z = let y : ◌≡◌ {A = ℕ} 0 1 = cc in absurd (omega arith)
                    by e k d b (Some x) read z =
                        let (front, nil, good) = (tbs_is_its_form d x.0 x.1).0 read in
                        let (a, v, last) = an_ending x.0 (drop q.next s) (sym i ∙ not-false two j) in
                        (made x.0 a v, made_of e k d b x.0 (read ∙ ap (λ (y : List ℕ). Some (x.0, y)) nil) (cc) (cc) a v last)

                pub key_found : Some (record { from = q.contents + key.from; to = q.contents + key.to }) ≡ key_at s
                unfolding key_at
                key_found = let (c, k) = found in rw (k.read, k.from, k.to)

                key_fits : q.contents + key.to ≤ length s
                key_fits = let (c, k) = found in by c k
                  where
                    by : (c : Certificate) → Found c → q.contents + key.to ≤ length s
                    by c k = rw k.to (certificate_fits s c k.read)

                pub to_fits : Fits w64 (q.contents + key.to)
                unfolding max_certificate_octets
                to_fits = record { fits = omega (arith, key_fits, few) }

                pub from_fits : Fits w64 (q.contents + key.from)
                unfolding max_certificate_octets
                from_fits = let (c, k) = found in record { fits = omega (arith, key_fits, few, k.from, k.to) }

  -- what a caller of find_key knows
  module _ (o : Option KeyAt) (f : o ≡ key_at s) where
    none_there : o ≡ None → certificate s ≡ None
    unfolding key_at
    none_there g = (fault_told key_places (certificate s) (λ c e. let z : ◌≡◌ {A = ℕ} 0 1 = cc in omega arith)).0 (sym f ∙ g)

    pub no_part : o ≡ None → [] ≡ key_part s
    unfolding key_part
    no_part g = rw (none_there g)

    module _ (k : KeyAt) (g : o ≡ Some k) where
      pub record Stands (c : Certificate) : Type 0 where
        pub read : certificate s ≡ Some c
        pub from : k.from ≡ length (before_key c)
        pub to : k.to ≡ length (before_key c) + length (wire_element c.tbs_certificate.subject_public_key_info)

      stands : (c : Certificate) × Stands c
      unfolding key_at
      stands = go (certificate s) refl (sym f ∙ g)
        where
          go : (x : Option Certificate) → certificate s ≡ x → key_places x ≡ Some k → (c : Certificate) × Stands c
          go None e h = let z : ◌≡◌ {A = ℕ} 0 1 = cc in absurd (omega arith)
          go (Some c) e h = (c, record { read = e; from = cc; to = cc })

      pub part_order : k.from ≤ k.to
      part_order = let (c, t) = stands in omega (arith, t.from, t.to)

      pub part_inside : k.to ≤ length s
      part_inside = let (c, t) = stands in by c t
        where
          by : (c : Certificate) → Stands c → k.to ≤ length s
          by c t = rw t.to (certificate_fits s c t.read)

      pub part_there : take (k.to - k.from) (drop k.from s) ≡ key_part s
      unfolding key_part
      part_there = let (c, t) = stands in by c t
        where
          by : (c : Certificate) → Stands c → take (k.to - k.from) (drop k.from s) ≡ key_in (certificate s)
          by c t =
              let key = wire_element c.tbs_certificate.subject_public_key_info in
              let whole : s ≡ before_key c ++ (key ++ after_key c) =
              ((certificate_is_its_layout s c).0 t.read).0 ∙ key_stands c ∙ append_assoc (before_key c) key (after_key c) in
              let count : length key ≡ k.to - k.from = omega (arith, t.from, t.to) in
              let behind : drop k.from s ≡ key ++ after_key c =
              ap (drop k.from) whole ∙ drop_at (before_key c) (key ++ after_key c) k.from (sym t.from) in
              rw (t.read, behind) (take_at key (after_key c) (k.to - k.from) count)

pub found_or_not : (s : List ℕ) (b : Bool) (o : Option KeyAt) → o ≡ key_at s → b ≡ is_some o → b ≡ is_certificate s
unfolding key_at is_certificate
found_or_not s b o f h = h ∙ rw f (go (certificate s))
  where
    go : (x : Option Certificate) → is_some (key_places x) ≡ is_some x
    go None = refl
    go (Some c) = refl
