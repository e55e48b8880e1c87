-- What the offsets of an element say about the element read there, for code that walks a slice by them; and a law for each return of read_element
-- and read_tagged.
use Rattle.std.proofs.lemmas.Option.{none-some}
use Rattle.std.specs.Prelude.{Option, None, Some}
use Prim.Native.Nat.{ℕ, suc, ◌+◌, ◌%◌, ◌-◌, ◌≤◌, ◌<◌, ◌^◌}
use native.Mathlib.Omega.{arith}
use mathlib.Core.Path.{◌≡◌, refl, sym, ap, ◌∙◌}
use mathlib.Core.Logic.{◌↔◌, ◌≢◌}
use mathlib.Core.List.{List, ◌∷◌, ◌++◌}
use lib.ListN.{length, take, drop, get_or, length-append, length-drop, take-append-drop}
use lib.Seq.{take_at, length-take-le, drop-drop}
use Rattle.spec_octets.proofs.ReaderLaws.{nothing_found, fault_told, pure_some}
use Rattle.spec_octets.proofs.Walks.{drop_step}
use Rattle.spec_der.specs.Elements.{Element, wire_length, wire_element, element_length, element, tagged, GoodElement}
use Rattle.spec_der.proofs.LengthLaws.{length_is_its_form}
use Rattle.spec_der.proofs.ElementLaws.{element_is_its_form, tagged_is_its_form, element_parts, contents_fit}
use Rattle.read_element.specs.declared.LengthAt.{LengthAt}
use Rattle.read_element.specs.declared.ElementAt.{ElementAt}
use Rattle.read_element.specs.Places.{length_at, element_places, element_at, tagged_at}
use Rattle.read_element.proofs.LengthWays.{LengthTo, no_length, length_there, drop_front, long_front, sum_front}

module _ (s : List ℕ) (at : ℕ) where
  -- p says where the element e stands in s
  pub record ElementTo (p : ElementAt) (e : Element) : Type 0 where
    pub front : drop at s ≡ wire_element e ++ drop p.next s
    pub good : GoodElement e
    pub tag : p.tag ≡ e.tag
    pub contents : take (p.next - p.contents) (drop p.contents s) ≡ e.contents
    pub long : p.next ≡ at + length (wire_element e)
    pub begins : p.contents ≡ at + suc (length (wire_length (length e.contents)))
    pub count : p.next - p.contents ≡ length e.contents
    pub after : at < p.contents
    pub order : p.contents ≤ p.next
    pub inside : p.next ≤ length s

  abbrev places_of : Element → List ℕ → ElementAt
  places_of e rest = record { tag = e.tag; contents = length s - length rest - length e.contents; next = length s - length rest }

  module _ (e : Element) (rest : List ℕ) (f : drop at s ≡ wire_element e ++ rest) where
    -- tag and length octets
    abbrev head : List ℕ
    head = e.tag ∷ wire_length (length e.contents)

    headed : drop at s ≡ head ++ (e.contents ++ rest)
    headed = f ∙ element_parts e rest

    whole : length (wire_element e) ≡ length head + length e.contents
    unfolding wire_element
    whole = length-append head e.contents

    all : length s ≡ at + length (wire_element e) + length rest
    all = sum_front s at (wire_element e) rest f (omega (arith, contents_fit e))

    next_is : length s - length rest ≡ at + length (wire_element e)
    next_is = omega (arith, all)

    contents_is : at + length (wire_element e) - length e.contents ≡ at + length head
    contents_is = omega (arith, whole)

    count_is : at + length (wire_element e) - (at + length head) ≡ length e.contents
    count_is = omega (arith, whole)

    element_to : GoodElement e → ElementTo (record { tag = e.tag; contents = at + length head; next = at + length (wire_element e) }) e
    element_to good = record {
      front = rw (drop_front s at (wire_element e) rest f) f;
      good = good;
      tag = refl;
      contents = rw (count_is, drop_front s at head (e.contents ++ rest) headed) (take_at e.contents rest (length e.contents) refl);
      long = refl;
      begins = refl;
      count = count_is;
      after = omega arith;
      order = omega (arith, whole);
      inside = omega (arith, all);
    }

    told : (p : ElementAt) → GoodElement e → Some (places_of e rest) ≡ Some p → ElementTo p e
    told p good g =
        let same : places_of e rest ≡ p = cc in
        rw (← same, next_is, contents_is) (element_to good)

  element_faults : (element_at s at ≡ None) ↔ (element (drop at s) ≡ None)
  unfolding element_at
  element_faults = fault_told (element_places s) (element (drop at s)) (λ r e. let z : ◌≡◌ {A = ℕ} 0 1 = cc in omega arith)

  tagged_faults : (t : ℕ) → (tagged_at t s at ≡ None) ↔ (tagged t (drop at s) ≡ None)
  unfolding tagged_at
  tagged_faults t = fault_told (element_places s) (tagged t (drop at s)) (λ r e. let z : ◌≡◌ {A = ℕ} 0 1 = cc in omega arith)

  -- what a caller of read_element knows
  module _ (o : Option ElementAt) (f : o ≡ element_at s at) where
    pub no_element : o ≡ None → element (drop at s) ≡ None
    no_element g = element_faults.0 (sym f ∙ g)

    pub element_there : (p : ElementAt) → o ≡ Some p → (e : Element) × ElementTo p e
    unfolding element_at
    element_there p g = go (element (drop at s)) refl (sym f ∙ g)
      where
        go : (r : Option (Element × List ℕ)) → element (drop at s) ≡ r → element_places s r ≡ Some p → (e : Element) × ElementTo p e
        go None h k = let z : ◌≡◌ {A = ℕ} 0 1 = cc in absurd (omega arith)
        go (Some r) h k = let (front, good) = (element_is_its_form (drop at s) r.0 r.1).0 h in (r.0, told r.0 r.1 front p good k)

  -- what a caller of read_tagged knows
  module _ (t : ℕ) (o : Option ElementAt) (f : o ≡ tagged_at t s at) where
    pub no_tagged : o ≡ None → tagged t (drop at s) ≡ None
    no_tagged g = (tagged_faults t).0 (sym f ∙ g)

    pub tagged_there : (p : ElementAt) → o ≡ Some p → (e : Element) × ElementTo p e × (e.tag ≡ t)
    unfolding tagged_at
    tagged_there p g = go (tagged t (drop at s)) refl (sym f ∙ g)
      where
        go : (r : Option (Element × List ℕ)) → tagged t (drop at s) ≡ r → element_places s r ≡ Some p → (e : Element) × ElementTo p e × (e.tag ≡ t)
        go None h k = let z : ◌≡◌ {A = ℕ} 0 1 = cc in absurd (omega arith)
        go (Some r) h k = let (front, good) = (tagged_is_its_form t (drop at s) r.0 r.1).0 h in (r.0, told r.0 r.1 front p good.0 k, good.1)

    module _ (p : ElementAt) (g : o ≡ Some p) where
      pub tagged_order : p.contents ≤ p.next
      tagged_order = (tagged_there p g).1.order

      pub tagged_inside : p.next ≤ length s
      tagged_inside = (tagged_there p g).1.inside

  -- read_element
  unread : ((e : Element) (rest : List ℕ) → drop at s ≡ wire_element e ++ rest → GoodElement e → ⊥) → None ≡ element_at s at
  unread bad = sym (element_faults.1 (nothing_found (element (drop at s)) (λ r h.
      let (front, good) = (element_is_its_form (drop at s) r.0 r.1).0 h in bad r.0 r.1 front good)))

  pub nothing_left : length s ≤ at → None ≡ element_at s at
  nothing_left h = unread (λ e rest f good. omega (arith, all e rest f, contents_fit e))

  module _ (h : at < length s) where
    -- behind the tag stand the length octets, then contents
    opened :
        (e : Element) (rest : List ℕ) → drop at s ≡ wire_element e ++ rest →
        (get_or s at 0 ≡ e.tag) × (drop (at + 1) s ≡ wire_length (length e.contents) ++ (e.contents ++ rest))
    opened e rest f =
        let same : get_or s at 0 ∷ drop (at + 1) s ≡ e.tag ∷ (wire_length (length e.contents) ++ (e.contents ++ rest))
        = sym (drop_step 0 s at (at + 1) h refl) ∙ f ∙ element_parts e rest in
        (cc, cc)

    pub long_tag_lem : (t : ℕ) → t ≡ get_or s at 0 → t % 32 ≡ 31 → None ≡ element_at s at
    long_tag_lem t a k = unread (λ e rest f good. good.0 (rw (← (opened e rest f).0, ← a) k))

    module _ (o : Option LengthAt) (b : o ≡ length_at s (at + 1)) where
      read_length :
          (e : Element) (rest : List ℕ) → drop at s ≡ wire_element e ++ rest → GoodElement e →
          element_length (drop (at + 1) s) ≡ Some (length e.contents, e.contents ++ rest)
      read_length e rest f good = (length_is_its_form (drop (at + 1) s) (length e.contents) (e.contents ++ rest)).1 ((opened e rest f).1, good.1)

      pub length_fault : o ≡ None → None ≡ element_at s at
      length_fault g = unread (λ e rest f good. none-some _ (sym (no_length s (at + 1) o b g) ∙ read_length e rest f good))

      module _ (l : LengthAt) (g : o ≡ Some l) where
        there : LengthTo s (at + 1) l
        there = length_there s (at + 1) o b l g

        pub length_inside : l.next ≤ length s
        length_inside = there.inside

        pub contents_cut_off : length s - l.next < l.value → None ≡ element_at s at
        contents_cut_off k = unread (λ e rest f good.
            let (n, d) =
            (pure_some l.value (length e.contents) (drop l.next s) (e.contents ++ rest)).0 (sym there.found ∙ read_length e rest f good) in
            omega (arith, long_front s l.next e.contents rest d))

        pub element_read :
            (t : ℕ) → t ≡ get_or s at 0 → t % 32 ≢ 31 → l.value ≤ length s - l.next →
            Some (record { tag = t; contents = l.next; next = l.next + l.value }) ≡ element_at s at
        unfolding element_at
        element_read t a short k = stands ((length_is_its_form (drop (at + 1) s) l.value (drop l.next s)).0 there.found)
          where
            d : List ℕ
            d = take l.value (drop l.next s)

            stands :
                (drop (at + 1) s ≡ wire_length l.value ++ drop l.next s) × (l.value < 2 ^ 16) →
                Some (record { tag = t; contents = l.next; next = l.next + l.value }) ≡ element_places s (element (drop at s))
            stands w =
                let n : length d ≡ l.value = length-take-le l.value (drop l.next s) (omega (arith, length-drop l.next s)) in
                let rest : drop l.value (drop l.next s) ≡ drop (l.next + l.value) s = drop-drop l.value l.next s in
                let all : d ++ drop (l.next + l.value) s ≡ drop l.next s = rw (← rest) (take-append-drop l.value (drop l.next s)) in
                let front : drop at s ≡ wire_element (record { tag = t; contents = d }) ++ drop (l.next + l.value) s
                = drop_step 0 s at (at + 1) h refl ∙ rw (← a, element_parts (record { tag = t; contents = d }) (drop (l.next + l.value) s), n, all) (ap (◌∷◌ t) w.0) in
                let e =
                (element_is_its_form (drop at s) (record { tag = t; contents = d }) (drop (l.next + l.value) s)).1 (front, (short, rw n w.1)) in
                let next : length s - length (drop (l.next + l.value) s) ≡ l.next + l.value =
                omega (arith, length-drop (l.next + l.value) s, length_inside) in
                let begins : l.next + l.value - length d ≡ l.next = omega arith in
                rw (e, next, begins)

  -- read_tagged
  module _ (t : ℕ) (o : Option ElementAt) (f : o ≡ element_at s at) where
    pub no_element_no_tagged : o ≡ None → None ≡ tagged_at t s at
    no_element_no_tagged g = sym ((tagged_faults t).1 (nothing_found (tagged t (drop at s)) (λ r h.
        let (front, good) = (tagged_is_its_form t (drop at s) r.0 r.1).0 h in
        none-some _ (sym (no_element o f g) ∙ (element_is_its_form (drop at s) r.0 r.1).1 (front, good.0)))))

    module _ (p : ElementAt) (g : o ≡ Some p) where
      pub another_tag : p.tag ≢ t → None ≡ tagged_at t s at
      another_tag other = let (e, k) = element_there o f p g in by e k
        where
          by : (e : Element) → ElementTo p e → None ≡ tagged_at t s at
          by e k = sym ((tagged_faults t).1 (nothing_found (tagged t (drop at s)) (λ r h.
              let (front, good) = (tagged_is_its_form t (drop at s) r.0 r.1).0 h in
              let mine = (element_is_its_form (drop at s) e (drop p.next s)).1 (k.front, k.good) in
              let same =
              ((pure_some e r.0 (drop p.next s) r.1).0 (sym mine ∙ (element_is_its_form (drop at s) r.0 r.1).1 (front, good.0))).0 in
              other (k.tag ∙ ap (λ (x : Element). x.tag) same ∙ good.1))))

      pub that_tag : p.tag ≡ t → Some p ≡ tagged_at t s at
      unfolding element_at tagged_at
      that_tag same = let (e, k) = element_there o f p g in by e k
        where
          by : (e : Element) → ElementTo p e → Some p ≡ tagged_at t s at
          by e k =
              let mine = (element_is_its_form (drop at s) e (drop p.next s)).1 (k.front, k.good) in
              let also = (tagged_is_its_form t (drop at s) e (drop p.next s)).1 (k.front, (k.good, sym k.tag ∙ same)) in
              sym g ∙ f ∙ rw (mine, also)
