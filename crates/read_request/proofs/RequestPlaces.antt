-- What the offsets of a requested name say about the name read there, for code that walks a request by them.
use Rattle.std.specs.Prelude.{Option, None, Some}
use Prim.Native.Nat.{ℕ, ◌≤◌, ◌<◌, ◌+◌, ◌-◌}
use native.Mathlib.Omega.{arith}
use mathlib.Core.Path.{◌≡◌, refl, ap, ◌∙◌}
use mathlib.Core.Logic.{◌↔◌}
use mathlib.Core.Bool.{Bool, true, false}
use mathlib.Core.List.{List, [], ◌∷◌, ◌++◌, append_assoc}
use lib.ListN.{length, drop, take, length-drop, length-append}
use lib.Seq.{drop-drop, take_at, drop-append_seam, length-take-le}
use Rattle.spec_octets.specs.Octets.{text}
use Rattle.spec_octets.specs.Reader.{given}
use Rattle.spec_octets.proofs.Texts.{same_equal}
use Rattle.spec_octets.proofs.ReaderLaws.{fault_told, bind_some, given_some}
use Rattle.spec_name.specs.Names.{Name, wire, name}
use Rattle.spec_name.proofs.NameLaws.{name_is_its_labels, fewer_labels}
use Rattle.read_name.proofs.PlaceLaws.{NameTo, name_to}
use Rattle.read_request.specs.declared.Requested.{Requested}
use Rattle.spec_request.specs.Request.{is_asterisk, is_wildcard, base, is_requestable, requested_name}
use Rattle.read_request.specs.Places.{places_of, requested_at}

-- the octets of a name before its X: an asterisk label or nothing
abbrev pub ahead : Bool → ℕ
ahead true = 2
ahead false = 0

wire_base : (n : Name) → (front : List ℕ) × (wire n ≡ front ++ wire (base n)) × (length front ≡ ahead (is_wildcard n))
unfolding is_wildcard base
wire_base [] = ([], refl, refl)
wire_base (l ∷ ls) = go (is_asterisk l) refl
  where
    go : (t : Bool) → is_asterisk l ≡ t → (front : List ℕ) × (wire (l ∷ ls) ≡ front ++ wire (base (l ∷ ls))) × (length front ≡ ahead (is_wildcard (l ∷ ls)))
    go true e = let star = (same_equal l (text "*")).0 e in (1 ∷ text "*", rw (e, star), rw e)
    go false e = ([], rw e, rw e)

module _ (s : List ℕ) (at : ℕ) where
  -- the requested name n stands in s from `at` up to r.next, and its X from r.base on
  pub record RequestedTo (r : Requested) (n : Name) : Type 0 where
    pub found : requested_name (drop at s) ≡ Some (n, drop r.next s)
    pub wild : r.wildcard ≡ is_wildcard n
    pub octets : take (r.next - r.base) (drop r.base s) ≡ wire (base n)
    pub from : at ≤ r.base
    pub onward : r.base < r.next
    pub inside : r.next ≤ length s

  -- a name that ends at e
  module _ (e : ℕ) (n : Name) (k : NameTo s at e n) where
    read : requested_name (drop at s) ≡ given (is_requestable n) n (drop e s)
    unfolding requested_name
    read = rw k.found

    pub unrequestable : is_requestable n ≡ false → None ≡ requested_at s at
    unfolding requested_at
    unrequestable f = rw (read, f)

    -- its X begins at b
    module _ (b : ℕ) (place : b ≡ at + ahead (is_wildcard n)) where
      base_long : e ≡ b + length (wire (base n))
      base_long =
          let (front, parts, long) = wire_base n in
          let sum = ap length parts ∙ length-append front (wire (base n)) in
          omega (arith, k.long)

      base_stands : drop b s ≡ wire (base n) ++ drop e s
      base_stands =
          let (front, parts, long) = wire_base n in
          let whole = ((name_is_its_labels (drop at s) n (drop e s)).0 k.found).0 in
          rw (place, ← long, ← drop-drop (length front) at s, whole, parts, append_assoc) (drop-append_seam front (wire (base n) ++ drop e s))

      pub base_octets : take (e - b) (drop b s) ≡ wire (base n)
      base_octets = rw base_stands (take_at (wire (base n)) (drop e s) (e - b) (omega (arith, base_long)))

      pub base_before : b < e
      base_before = omega (arith, base_long, fewer_labels (base n))

      pub requested_to : is_requestable n ≡ true → (w : Bool) → w ≡ is_wildcard n → RequestedTo (record { wildcard = w; base = b; next = e }) n
      requested_to good w wild = record {
        found = rw (read, good);
        wild = wild;
        octets = base_octets;
        from = omega arith;
        onward = base_before;
        inside = k.inside;
      }

  told : (r : Requested) (n : Name) → RequestedTo r n → requested_at s at ≡ Some r
  unfolding requested_at
  told r n k =
      let e : length s - length (drop r.next s) ≡ r.next = omega (arith, length-drop r.next s, k.inside) in
      let long = length-take-le (r.next - r.base) (drop r.base s) (omega (arith, length-drop r.base s, k.inside)) in
      let b : r.next - length (wire (base n)) ≡ r.base = omega (arith, ap length k.octets, k.onward) in
      rw (k.found, e, b, ← k.wild)

  the_one : (q r : Requested) (n : Name) → RequestedTo q n → requested_at s at ≡ Some r → RequestedTo r n
  the_one q r n k g = let e : q ≡ r = cc (told q n k) in rw e at k

  pub requested_ends : (r : Requested) → (requested_at s at ≡ Some r) ↔ ((n : Name) × RequestedTo r n)
  unfolding requested_at requested_name
  requested_ends r = (go (requested_name (drop at s)) refl, λ k. told r k.0 k.1)
    where
      go : (o : Option (Name × List ℕ)) → requested_name (drop at s) ≡ o → requested_at s at ≡ Some r → (n : Name) × RequestedTo r n
      go None h g = let z : ◌≡◌ {A = ℕ} 0 1 = cc in absurd (omega arith)
      go (Some q) h g =
          let (n, mid, found, ok) = (bind_some name _ (drop at s) q.0 q.1).0 h in
          let (good, same, rest) = (given_some (is_requestable n) n q.0 mid q.1).0 ok in
          (n, the_one _ r n (requested_to _ n (name_to s at n mid found) _ refl good _ refl) g)

  pub requested_faults : (requested_at s at ≡ None) ↔ (requested_name (drop at s) ≡ None)
  unfolding requested_at
  requested_faults = fault_told (places_of s) (requested_name (drop at s)) (λ r e. let z : ◌≡◌ {A = ℕ} 0 1 = cc in omega arith)

  -- the same as a caller of requested_name knows it
  module _ (o : Option Requested) (f : o ≡ requested_at s at) where
    pub name_broken : o ≡ None → requested_name (drop at s) ≡ None
    name_broken g = requested_faults.0 (cc)

    module _ (r : Requested) (g : o ≡ Some r) where
      pub requested_there : (n : Name) × RequestedTo r n
      requested_there = (requested_ends r).0 (cc)

      pub next_after : at < r.next
      next_after = let (n, k) = requested_there in omega (arith, k.from, k.onward)

      pub next_inside : r.next ≤ length s
      next_inside = requested_there.1.inside

      pub left_less : length s - r.next < length s - at
      left_less = omega (arith, next_after, next_inside)
