-- Octets that are one requested name, read by offset: the way out of name_above for each case.
use Rattle.std.specs.Prelude.{Some, Option, None}
use Prim.Native.Nat.{ℕ, ◌-◌, ◌≤◌, ◌<◌}
use native.Mathlib.Omega.{arith}
use mathlib.Core.Path.{◌≡◌, refl, ap, sym, ◌∙◌}
use mathlib.Core.List.{List, [], ◌∷◌, ◌++◌, append-nil}
use lib.ListN.{length, drop, drop_of_length-le, length-drop}
use lib.Seq.{take_all}
use Rattle.spec_octets.specs.Reader.{given}
use Rattle.spec_octets.proofs.ReaderLaws.{bind_some, given_some}
use Rattle.spec_name.specs.Names.{Name, wire, name, GoodName}
use Rattle.spec_name.proofs.NameLaws.{name_is_its_labels}
use Rattle.spec_request.specs.Request.{is_wildcard, base, is_requestable, requested_name}
use Rattle.spec_request.proofs.RequestedNames.{good_base}
use Rattle.spec_record.specs.Records.{filling}
use Rattle.read_request.specs.declared.Requested.{Requested}
use Rattle.read_request.specs.Places.{requested_at}
use Rattle.read_request.proofs.RequestPlaces.{RequestedTo, name_broken, requested_there}
use Rattle.spec_session.proofs.Kept.{filling_some}
use Rattle.session_kept.specs.declared.Part.{Part}
use Rattle.session_kept.specs.Places.{above_at, placed_at, placed_in, name_above}

-- a requested name that is read is a valid name, and stands at the front
read_name : (s : List ℕ) (n : Name) (rest : List ℕ) → requested_name s ≡ Some (n, rest) → (s ≡ wire n ++ rest) × GoodName n
unfolding requested_name
read_name s n rest e =
    let (m, mid, f, h) = (bind_some name (λ m. given (is_requestable m) m) s n rest).0 e in
    let (t, same, end) = (given_some (is_requestable m) m n mid rest).0 h in
    rw (same, end) at ((name_is_its_labels s m mid).0 f)

pub name_alone : (s : List ℕ) (n : Name) → filling (requested_name s) ≡ Some n → (s ≡ wire n) × GoodName n
name_alone s n e =
    let (whole, good) = read_name s n [] ((filling_some (requested_name s) n).0 e) in
    (whole ∙ append-nil (wire n), good)

module _ (s : List ℕ) (u : ℕ) (o : Option Requested) (f : o ≡ requested_at s 0) where
  pub no_name : o ≡ None → None ≡ name_above s u
  unfolding name_above
  no_name e = rw (name_broken s 0 o f e)

  module _ (r : Requested) (g : o ≡ Some r) where
    there : (n : Name) × RequestedTo s 0 r n
    there = requested_there s 0 o f r g

    pub more_octets : r.next < length s → None ≡ name_above s u
    unfolding name_above
    more_octets h = let (n, k) = there in rw k.found (go n (drop r.next s) (omega (arith, length-drop r.next s)))
      where
        go : (n : Name) (rest : List ℕ) → 0 < length rest → None ≡ placed_in (length s) u (filling (Some (n, rest)))
        go n [] h = absurd (omega arith)
        go n (x ∷ rest) h = refl

    -- the name fills the octets
    module _ (h : length s ≤ r.next) where
      whole : (n : Name) × (requested_name s ≡ Some (n, [])) × (r.wildcard ≡ is_wildcard n) × (drop r.base s ≡ wire (base n))
      whole =
          let (n, k) = there in (
            n,
            k.found ∙ ap (λ rest. Some (n, rest)) (drop_of_length-le s {i = r.next} h),
            k.wild,
            sym (take_all (r.next - r.base) (drop r.base s) (omega (arith, length-drop r.base s))) ∙ k.octets,
          )

      module _ (q : Option Part) (d : (x : Name) → GoodName x → drop r.base s ≡ wire x → q ≡ above_at (length s) x u) where
        placed : name_above s u ≡ placed_at r.wildcard q
        unfolding name_above
        placed = go whole.0 whole.1 whole.2 whole.3
          where
            go :
                (n : Name) → requested_name s ≡ Some (n, []) → r.wildcard ≡ is_wildcard n → drop r.base s ≡ wire (base n) →
                name_above s u ≡ placed_at r.wildcard q
            go n found wild octets =
                ap (λ v. placed_in (length s) u (filling v)) found
                ∙ ap (placed_at (is_wildcard n)) (sym (d (base n) (good_base n (read_name s n [] found).1) octets))
                ∙ ap (λ w. placed_at w q) (sym wild)

        pub at_root : q ≡ None → None ≡ name_above s u
        at_root e = sym (placed ∙ ap (placed_at r.wildcard) e)

        pub at_name : (p : Part) → q ≡ Some p → Some (record { offset = p.offset; length = p.length; wildcard = r.wildcard }) ≡ name_above s u
        at_name p e = sym (placed ∙ ap (placed_at r.wildcard) e)
