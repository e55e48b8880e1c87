-- The offset after an element, by what reading it says; a law for each return of past_element, past_tagged and past_version.
use Rattle.std.specs.Prelude.{Option, None, Some}
use Prim.Native.Nat.{ℕ, ◌-◌}
use native.Mathlib.Nat.{sub_self}
use native.Mathlib.Omega.{arith}
use mathlib.Core.Path.{◌≡◌, refl, sym, ◌∙◌}
use mathlib.Core.Bool.{Bool, true, false, cond}
use mathlib.Core.List.{List}
use lib.Dec.{eqb}
use lib.ListN.{length, drop}
use Rattle.spec_octets.specs.Reader.{Reader, given}
use Rattle.spec_der.specs.Elements.{Element, element, tagged}
use Rattle.spec_der.specs.Certificate.{version_tag, as_version, version}
use Rattle.read_element.specs.declared.ElementAt.{ElementAt}
use Rattle.read_element.specs.Places.{element_places, element_at, tagged_at}
use Rattle.read_tbs.specs.Places.{end_place, past, start}

pub past_fault : {A : Type 0} (read : Reader A) (s : List ℕ) (from : Option ℕ) → from ≡ None → None ≡ past read s from
past_fault read s from e = rw e

-- an element ends at the offset that its places name
module _ (s : List ℕ) (r : Option (Element × List ℕ)) (o : Option ElementAt) (f : o ≡ element_places s r) where
  no_end : o ≡ None → None ≡ end_place s r
  no_end g = go r (sym f ∙ g)
    where
      go : (r : Option (Element × List ℕ)) → element_places s r ≡ None → None ≡ end_place s r
      go None h = refl
      go (Some x) h = let z : ◌≡◌ {A = ℕ} 0 1 = cc in absurd (omega arith)

  end_there : (p : ElementAt) → o ≡ Some p → Some p.next ≡ end_place s r
  end_there p g = go r (sym f ∙ g)
    where
      go : (r : Option (Element × List ℕ)) → element_places s r ≡ Some p → Some p.next ≡ end_place s r
      go None h = let z : ◌≡◌ {A = ℕ} 0 1 = cc in absurd (omega arith)
      go (Some x) h = let next : length s - length x.1 ≡ p.next = cc in rw next

module _ (s : List ℕ) (from : Option ℕ) (at : ℕ) (g : from ≡ Some at) (o : Option ElementAt) where
  pub no_element_past : o ≡ element_at s at → o ≡ None → None ≡ past element s from
  unfolding element_at
  no_element_past f h = rw g (no_end s (element (drop at s)) o f h)

  pub element_past : (p : ElementAt) → o ≡ element_at s at → o ≡ Some p → Some p.next ≡ past element s from
  unfolding element_at
  element_past p f h = rw g (end_there s (element (drop at s)) o f p h)

module _ (s : List ℕ) (at t : ℕ) (o : Option ElementAt) (f : o ≡ tagged_at t s at) where
  pub no_tagged_past : o ≡ None → None ≡ past (tagged t) s (Some at)
  unfolding tagged_at
  no_tagged_past h = no_end s (tagged t (drop at s)) o f h

  pub tagged_past : (p : ElementAt) → o ≡ Some p → Some p.next ≡ past (tagged t) s (Some at)
  unfolding tagged_at
  tagged_past p h = end_there s (tagged t (drop at s)) o f p h

-- the version is an element with its tag, or nothing
abbrev or_nothing : List ℕ → Option (Element × List ℕ) → Option (Option Element × List ℕ)
or_nothing s None = Some (None, s)
or_nothing s (Some r) = Some (Some r.0, r.1)

version_by_tag : (s : List ℕ) → version s ≡ or_nothing s (tagged version_tag s)
unfolding version tagged
version_by_tag s = go (element s)
  where
    by : (e : Element) (rest : List ℕ) (t : Bool) → cond {A = Option (Option Element × List ℕ)} t (Some (Some e, rest)) (Some (None, s)) ≡ or_nothing s (given t e rest)
    by e rest true = refl
    by e rest false = refl

    go :
        (r : Option (Element × List ℕ)) →
        as_version s r ≡ or_nothing s (Rattle.spec_octets.specs.Reader.and_then r (λ e. given (eqb e.tag version_tag) e))
    go None = refl
    go (Some r) = by r.0 r.1 (eqb r.0.tag version_tag)

module _ (s : List ℕ) (o : Option ElementAt) (f : o ≡ tagged_at 160 s 0) where
  pub no_version : o ≡ None → past version s start ≡ Some 0
  unfolding tagged_at
  no_version h = rw (version_by_tag s) (go (tagged 160 s) (sym f ∙ h))
    where
      go : (r : Option (Element × List ℕ)) → element_places s r ≡ None → end_place s (or_nothing s r) ≡ Some 0
      go None e = rw sub_self
      go (Some x) e = let z : ◌≡◌ {A = ℕ} 0 1 = cc in absurd (omega arith)

  pub version_past : (p : ElementAt) → o ≡ Some p → past version s start ≡ Some p.next
  unfolding tagged_at
  version_past p h = rw (version_by_tag s) (go (tagged 160 s) (sym f ∙ h))
    where
      go : (r : Option (Element × List ℕ)) → element_places s r ≡ Some p → end_place s (or_nothing s r) ≡ Some p.next
      go None e = let z : ◌≡◌ {A = ℕ} 0 1 = cc in absurd (omega arith)
      go (Some x) e = let next : length s - length x.1 ≡ p.next = cc in rw next
