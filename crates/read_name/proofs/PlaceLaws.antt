-- What the end offset of a name says about the name read there, for code that walks a slice by these ends.
use Rattle.std.specs.Prelude.{Option, None, Some}
use Prim.Native.Nat.{ℕ, ◌≤◌, ◌<◌, ◌+◌, ◌-◌}
use native.Mathlib.Omega.{arith}
use mathlib.Core.Path.{◌≡◌, refl, sym, ap, ◌∙◌}
use mathlib.Core.Logic.{◌↔◌}
use mathlib.Core.List.{List, ◌++◌}
use lib.ListN.{length, drop, take, length-append, length-drop}
use lib.Seq.{drop-drop, drop-append_seam, take_at}
use Rattle.spec_octets.proofs.ReaderLaws.{fault_told}
use Rattle.spec_name.specs.Names.{Name, wire, name}
use Rattle.read_name.specs.Places.{end_of, name_end}
use Rattle.spec_name.proofs.NameLaws.{name_is_its_labels, fewer_labels}

module _ (s : List ℕ) (at : ℕ) where
  -- the name n stands in s from `at` up to e
  pub record NameTo (e : ℕ) (n : Name) : Type 0 where
    pub found : name (drop at s) ≡ Some (n, drop e s)
    pub octets : take (e - at) (drop at s) ≡ wire n
    pub long : e ≡ at + length (wire n)
    pub inside : e ≤ length s

  module _ (n : Name) (rest : List ℕ) (h : name (drop at s) ≡ Some (n, rest)) where
    stands : drop at s ≡ wire n ++ rest
    stands = ((name_is_its_labels (drop at s) n rest).0 h).0

    lengths : (at < length s) × (length s ≡ at + length (wire n) + length rest)
    lengths =
        let e : length s - at ≡ length (wire n) + length rest = sym (length-drop at s) ∙ ap length stands ∙ length-append (wire n) rest in
        omega (arith, fewer_labels n)

    pub behind_name_lem : drop (at + length (wire n)) s ≡ rest
    behind_name_lem = rw (← drop-drop (length (wire n)) at s, stands) (drop-append_seam (wire n) rest)

    pub name_to : NameTo (at + length (wire n)) n
    name_to = record {
      found = rw behind_name_lem h;
      octets = rw stands (take_at (wire n) rest (at + length (wire n) - at) (omega arith));
      long = refl;
      inside = omega (arith, lengths);
    }

    pub ends_there : name_end s at ≡ Some (at + length (wire n))
    unfolding name_end
    ends_there = rw h (ap Some (omega (arith, lengths)))

  pub name_ends : (e : ℕ) → (name_end s at ≡ Some e) ↔ ((n : Name) × NameTo e n)
  unfolding name_end
  name_ends e = (go (name (drop at s)) refl, λ k. ends_there k.0 (drop e s) k.1.found ∙ ap Some (sym k.1.long))
    where
      go : (o : Option (Name × List ℕ)) → name (drop at s) ≡ o → name_end s at ≡ Some e → (n : Name) × NameTo e n
      go None h g = let z : ◌≡◌ {A = ℕ} 0 1 = cc in absurd (omega arith)
      go (Some r) h g =
          let there = ends_there r.0 r.1 h in
          let k : at + length (wire r.0) ≡ e = cc in
          (r.0, rw k at (name_to r.0 r.1 h))

  pub name_faults : (name_end s at ≡ None) ↔ (name (drop at s) ≡ None)
  unfolding name_end
  name_faults = fault_told (end_of s) (name (drop at s)) (λ r e. let z : ◌≡◌ {A = ℕ} 0 1 = cc in omega arith)

  -- the same as a caller of name_end knows it
  module _ (o : Option ℕ) (e : ℕ) (f : o ≡ name_end s at) (g : o ≡ Some e) where
    pub name_there : (n : Name) × NameTo e n
    name_there = (name_ends e).0 (cc)

    pub end_after : at < e
    end_after = let (n, k) = name_there in omega (arith, fewer_labels n)

    pub end_inside : e ≤ length s
    end_inside = name_there.1.inside
