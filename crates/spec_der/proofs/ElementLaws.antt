-- An element is read exactly where it is written; so are an element with a given tag, and elements one after the other.
use Rattle.std.proofs.lemmas.Option.{none-some}
use Rattle.std.specs.Prelude.{Some}
use Prim.Native.Nat.{ℕ, ◌%◌, ◌<◌, ◌^◌}
use native.Mathlib.Omega.{arith}
use mathlib.Core.Path.{◌≡◌, refl, sym, ap, ◌∙◌}
use mathlib.Core.Logic.{◌↔◌, ◌≢◌}
use mathlib.Core.Bool.{true}
use mathlib.Core.List.{List, [], ◌∷◌, ◌++◌, append_assoc, cons≢nil}
use lib.Dec.{eqb}
use lib.ListN.{length, length-append}
use borrow.Author.Tests.{eqb-true, eqb-false, eq-eqb, ne_eqb, not-true}
use Rattle.spec_octets.specs.Items.{Items, whole, broken, over, items}
use Rattle.spec_octets.proofs.ReaderLaws.{given_some, pure_some}
use Rattle.spec_octets.proofs.ItemLaws.{items_whole}
use Rattle.spec_der.specs.Elements.{Element, wire_length, wire_element, element_length, is_short_tag, element, tagged, all_of, elements, GoodElement}
use Rattle.spec_der.specs.Theorems.{ElementIsItsForm, ElementsEndToEnd}
use Rattle.spec_der.proofs.Forms.{Form, octet_form, octets_form, next_read, next_stand}
use Rattle.spec_der.proofs.LengthLaws.{length_is_its_form}

pub short_tag : (t : ℕ) → (is_short_tag t ≡ true) ↔ (t % 32 ≢ 31)
unfolding is_short_tag
short_tag t = (λ h. eqb-false (t % 32) 31 (not-true (eqb (t % 32) 31) h), λ h. rw (ne_eqb (t % 32) 31 h))

abbrev length_form : Form ℕ
length_form = record { read = element_length; wire = wire_length; Good = _; reads = length_is_its_form }

pub full : (e : Element) → wire_element e ≢ []
unfolding wire_element
full e z = cons≢nil z

pub contents_fit : (e : Element) → length e.contents < length (wire_element e)
unfolding wire_element
contents_fit e = omega (arith, length-append (wire_length (length e.contents)) e.contents)

pub element_parts : (e : Element) (rest : List ℕ) → wire_element e ++ rest ≡ e.tag ∷ (wire_length (length e.contents) ++ (e.contents ++ rest))
unfolding wire_element
element_parts e rest = ap (◌∷◌ e.tag) (append_assoc (wire_length (length e.contents)) e.contents rest)

pub element_is_its_form : ElementIsItsForm
unfolding element
element_is_its_form s e rest = (read, λ h. stand h.0 h.1)
  where
    Stands : Type 0
    Stands = (s ≡ wire_element e ++ rest) × GoodElement e

    found :
        (t n : ℕ) (c s₁ s₂ s₃ : List ℕ) → s ≡ t ∷ s₁ → s₁ ≡ wire_length n ++ s₂ → s₂ ≡ c ++ s₃ → n < 2 ^ 16 → length c ≡ n →
        (is_short_tag t ≡ true) × (record { tag = t; contents = c } ≡ e) × (s₃ ≡ rest) → Stands
    found t n c s₁ s₂ s₃ e₁ e₂ e₃ small long h =
        rw (← h.1, ← h.2, element_parts (record { tag = t; contents = c }) s₃, long, ← e₃, ← e₂) (e₁, ((short_tag t).0 h.0, small))

    read : element s ≡ Some (e, rest) → Stands
    read h =
        next_read octet_form _ h (λ t s₁ e₁ g₁ h₁.
        next_read length_form _ h₁ (λ n s₂ e₂ g₂ h₂.
        next_read (octets_form n) _ h₂ (λ c s₃ e₃ g₃ h₃.
        found t n c s₁ s₂ s₃ e₁ e₂ e₃ g₂ g₃ ((given_some _ _ e s₃ rest).0 h₃))))

    stand : s ≡ wire_element e ++ rest → GoodElement e → element s ≡ Some (e, rest)
    stand front good =
        next_stand octet_form _ e.tag (wire_length (length e.contents) ++ (e.contents ++ rest)) (front ∙ element_parts e rest) tt
        (next_stand length_form _ (length e.contents) (e.contents ++ rest) refl good.1
        (next_stand (octets_form (length e.contents)) _ e.contents rest refl refl
        ((given_some _ _ e rest rest).1 ((short_tag e.tag).1 good.0, refl, refl))))

abbrev pub element_form : Form Element
element_form = record { read = element; wire = wire_element; Good = GoodElement; reads = element_is_its_form }

-- with a given tag
abbrev pub GoodTagged : ℕ → Element → Type 0
GoodTagged t e = GoodElement e × (e.tag ≡ t)

pub tagged_is_its_form :
    (t : ℕ) (s : List ℕ) (e : Element) (rest : List ℕ) → (tagged t s ≡ Some (e, rest)) ↔ ((s ≡ wire_element e ++ rest) × GoodTagged t e)
unfolding tagged
tagged_is_its_form t s e rest = (
  λ h. next_read element_form _ h (λ d mid front good k. found d mid front good ((given_some (eqb d.tag t) d e mid rest).0 k)),
  λ h. next_stand element_form _ e rest h.0 h.1.0 ((given_some (eqb e.tag t) e e rest rest).1 (eq-eqb e.tag t h.1.1, refl, refl)),
)
  where
    found :
        (d : Element) (mid : List ℕ) → s ≡ wire_element d ++ mid → GoodElement d → (eqb d.tag t ≡ true) × (d ≡ e) × (mid ≡ rest) →
        (s ≡ wire_element e ++ rest) × GoodTagged t e
    found d mid front good h = rw (← h.1, ← h.2) (front, (good, eqb-true d.tag t h.0))

abbrev pub tagged_form : ℕ → Form Element
tagged_form t = record { read = tagged t; wire = wire_element; Good = GoodTagged t; reads = tagged_is_its_form t }

-- one after the other
pub all_of_lem : (i : Items Element) (es : List Element) (rest : List ℕ) → (all_of i ≡ Some (es, rest)) ↔ ((i ≡ whole es) × (rest ≡ []))
all_of_lem (whole xs) es rest = (
  λ h. let (p, q) = (pure_some xs es [] rest).0 h in (ap whole p, sym q),
  λ h. rw h.1 (ap all_of h.0),
)
all_of_lem (broken k) es rest = (λ h. absurd (none-some _ h), λ h. absurd (none-some _ (ap all_of h.0)))
all_of_lem over es rest = (λ h. absurd (none-some _ h), λ h. absurd (none-some _ (ap all_of h.0)))

pub elements_end_to_end : ElementsEndToEnd
unfolding elements
elements_end_to_end s es rest =
    let law = items_whole wire_element GoodElement full element element_is_its_form s es in (
      λ h. let (w, r) = (all_of_lem (items element (length s) s) es rest).0 h in
          let (front, good) = law.0 w in
          (front, r, good),
      λ h. (all_of_lem (items element (length s) s) es rest).1 (law.1 (h.0, h.2), h.1),
    )
