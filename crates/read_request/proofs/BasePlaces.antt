-- requested_name step by step: whether the name is a wildcard, where its X begins, and what its labels say.
use Rattle.std.specs.Prelude.{Option, Some, None}
use Prim.Native.Nat.{ℕ, ◌≤◌, ◌<◌, ◌+◌, ◌-◌}
use native.Mathlib.Nat.{add-zero}
use native.Mathlib.Omega.{arith}
use mathlib.Core.Path.{◌≡◌, sym, ◌∙◌}
use mathlib.Core.Bool.{Bool, true, false}
use mathlib.Core.List.{List}
use lib.ListN.{length, drop, take}
use Rattle.spec_name.specs.Names.{Name, wire, GoodName}
use Rattle.read_name.specs.Places.{name_end}
use Rattle.spec_name.proofs.NameLaws.{name_is_its_labels}
use Rattle.read_name.proofs.PlaceLaws.{NameTo, name_there, name_faults}
use Rattle.spec_request.specs.Request.{is_wildcard, base, is_requestable, requested_name}
use Rattle.read_request.specs.Places.{requested_at}
use Rattle.read_request.proofs.HostNames.{is_host_name}
use Rattle.read_request.proofs.RequestPlaces.{ahead, base_octets, base_before, unrequestable, requested_to, requested_ends}
use Rattle.spec_request.proofs.RequestedNames.{good_base}

-- X begins behind the asterisk label, where there is one
module _ (w : Bool) (at b : ℕ) where
  pub star_place : w ≡ true → b ≡ at + 2 → b ≡ at + ahead w
  star_place t e = rw t e

  pub plain_place : w ≡ false → b ≡ at → b ≡ at + ahead w
  plain_place t e = rw (t, add-zero) e

pub no_name : (s : List ℕ) (at : ℕ) (o : Option ℕ) → o ≡ name_end s at → o ≡ None → None ≡ requested_at s at
unfolding requested_at requested_name
no_name s at o f g = rw ((name_faults s at).0 (cc))

-- x is the name that ends at e, and w what is said of it
module _ {x : List ℕ} {w : Bool} (told : (n : Name) → x ≡ wire n → w ≡ is_wildcard n)
    (s : List ℕ) (at : ℕ) (o : Option ℕ) (e : ℕ) (f : o ≡ name_end s at) (g : o ≡ Some e) (part : x ≡ take (e - at) (drop at s)) where
  wild : (n : Name) → NameTo s at e n → w ≡ is_wildcard n
  wild n k = told n (part ∙ k.octets)

  pub star_inside : w ≡ true → at + 2 < length s
  star_inside t =
      let (n, k) = name_there s at o e f g in
      omega (arith, base_before s at e n k (at + 2) (rw (← wild n k, t)), k.inside)

  module _ (b : ℕ) (place : b ≡ at + ahead w) where
    begins : (n : Name) → NameTo s at e n → b ≡ at + ahead (is_wildcard n)
    begins n k = rw (← wild n k) place

    pub base_inside : b ≤ e
    base_inside = let (n, k) = name_there s at o e f g in omega (arith, base_before s at e n k b (begins n k))

-- y is its X from b on, and h what is said of that
module _ {x y : List ℕ} {w h : Bool} (told : (n : Name) → x ≡ wire n → w ≡ is_wildcard n) (hosts : (m : Name) → GoodName m → y ≡ wire m → h ≡ is_host_name m)
    (b : ℕ) (s : List ℕ) (at : ℕ) (o : Option ℕ) (e : ℕ) (f : o ≡ name_end s at) (g : o ≡ Some e)
    (part : x ≡ take (e - at) (drop at s)) (base-part : y ≡ take (e - b) (drop b s)) (place : b ≡ at + ahead w) where
  begun : (n : Name) → NameTo s at e n → b ≡ at + ahead (is_wildcard n)
  begun = begins told s at o e f g part b place

  requestable : (n : Name) → NameTo s at e n → is_requestable n ≡ h
  unfolding is_requestable
  requestable n k =
      let good = ((name_is_its_labels (drop at s) n (drop e s)).0 k.found).1 in
      sym (hosts (base n) (good_base n good) (base-part ∙ base_octets s at e n k b (begun n k)))

  pub asked_fault : h ≡ false → None ≡ requested_at s at
  asked_fault t = let (n, k) = name_there s at o e f g in unrequestable s at e n k (requestable n k ∙ t)

  pub asked_good : h ≡ true → Some (record { wildcard = w; base = b; next = e }) ≡ requested_at s at
  asked_good t =
      let (n, k) = name_there s at o e f g in
      let to = requested_to s at e n k b (begun n k) (requestable n k ∙ t) w (wild told s at o e f g part n k) in
      sym ((requested_ends s at _).1 (n, to))
