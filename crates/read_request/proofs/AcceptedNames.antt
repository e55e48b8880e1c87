-- The names of an accepted request, offset by offset, for code that walks a request that was checked.
use Rattle.std.specs.Prelude.{None, Some, Option}
use Prim.Native.Nat.{ℕ, suc, ◌≤◌, ◌<◌, ◌+◌, ◌-◌}
use native.Mathlib.Omega.{arith}
use mathlib.Core.Path.{◌≡◌, refl, sym, ap, ◌∙◌}
use mathlib.Core.Bool.{Bool, true, false, cond}
use mathlib.Core.List.{List, [], ◌∷◌}
use lib.Dec.{ltb}
use lib.ListN.{length, take, drop, length-drop, drop_of_length-le}
use Rattle.spec_limits.specs.Limits.{max_request_octets, max_names}
use Rattle.spec_refusal.specs.declared.Refusal.TheVariants.{RequestTooLong, BadName}
use Rattle.spec_octets.specs.Lists.{is_empty}
use Rattle.spec_octets.specs.Items.{Items, whole, broken, over, whole_items, items}
use Rattle.spec_octets.proofs.ItemLaws.{items_end, OneMore, one_more_lem}
use Rattle.spec_octets.proofs.ReaderLaws.{bind_some, given_some, pure_some}
use Rattle.spec_name.specs.Names.{Name, wire, name, GoodName}
use Rattle.spec_name.proofs.NameLaws.{name_is_its_labels}
use Rattle.read_request.specs.declared.Requested.{Requested}
use Rattle.spec_request.specs.Request.{is_wildcard, base, is_requestable, requested_name, name_items, requested_names, name_refusal, request_refusal}
use Rattle.read_request.specs.Places.{requested_at}
use Rattle.read_request.proofs.RequestPlaces.{RequestedTo, requested_there, name_broken}

good_read : (s : List ℕ) (n : Name) (rest : List ℕ) → requested_name s ≡ Some (n, rest) → GoodName n
unfolding requested_name
good_read s n rest e =
    let (m, mid, found, ok) = (bind_some name _ s n rest).0 e in
    let (good, one, more) = (given_some (is_requestable m) m n mid rest).0 ok in
    rw one at ((name_is_its_labels s m mid).0 found).1

module _ (s : List ℕ) where
  -- behind k names, those from `at` on
  pub record NamesLeft (at k : ℕ) (names : List Name) : Type 0 where
    pub room : ℕ
    pub within : k + room ≡ max_names
    pub left : items requested_name room (drop at s) ≡ whole names

  -- the name at `at` by its places, and those behind it
  pub record NextName (k : ℕ) (names : List Name) (r : Requested) : Type 0 where
    pub first : Name
    pub others : List Name
    pub split : names ≡ first ∷ others
    pub good : GoodName first
    pub octets : take (r.next - r.base) (drop r.base s) ≡ wire (base first)
    pub wild : r.wildcard ≡ is_wildcard first
    pub after : NamesLeft r.next (suc k) others

  pub all_names : request_refusal s ≡ None → NamesLeft 0 0 (requested_names s)
  unfolding request_refusal requested_names name_items
  all_names e = record {
    room = max_names;
    within = omega arith;
    left = go (ltb max_request_octets (length s)) (is_empty s) (items requested_name max_names s) e;
  }
    where
      go : (long none_left : Bool) (i : Items Name) → cond long (Some RequestTooLong) (cond none_left (Some (BadName (record { 0 = 0 }))) (name_refusal i)) ≡ None → i ≡ whole (whole_items i)
      go true n i e = let z : ◌≡◌ {A = ℕ} 0 1 = cc in absurd (omega arith)
      go false true i e = let z : ◌≡◌ {A = ℕ} 0 1 = cc in absurd (omega arith)
      go false false (whole xs) e = refl
      go false false (broken k) e = let z : ◌≡◌ {A = ℕ} 0 1 = cc in absurd (omega arith)
      go false false over e = let z : ◌≡◌ {A = ℕ} 0 1 = cc in absurd (omega arith)

  module _ {at k : ℕ} {names : List Name} (w : NamesLeft at k names) where
    pub names_end : length s ≤ at → names ≡ []
    names_end h =
        let none_left : whole [] ≡ whole names = sym (items_end requested_name w.room) ∙ rw (drop_of_length-le s h) at w.left in
        cc

    module _ (h : at < length s) where
      more : OneMore requested_name w.room (drop at s) names
      more = one_more_lem requested_name w.room (drop at s) names (λ e. omega (arith, ap length e, length-drop at s)) w.left

      pub names_few : k < max_names
      names_few = omega (arith, w.within, more.room_left)

      module _ (o : Option Requested) (f : o ≡ requested_at s at) where
        pub names_good : o ≡ None → ⊥
        names_good g =
            let unread = name_broken s at o f g in
            let z : ◌≡◌ {A = ℕ} 0 1 = cc more.found in omega arith

        pub next_name : (r : Requested) → o ≡ Some r → NextName k names r
        next_name r g = go (requested_there s at o f r g)
          where
            go : (n : Name) × RequestedTo s at r n → NextName k names r
            go (n, to) =
                let one = (pure_some more.item n more.rest (drop r.next s)).0 (sym more.found ∙ to.found) in
                record {
                  first = n;
                  others = more.others;
                  split = more.split ∙ rw one.0;
                  good = good_read (drop at s) n (drop r.next s) to.found;
                  octets = to.octets;
                  wild = to.wild;
                  after = record { room = more.fewer; within = omega (arith, w.within, more.room_left); left = rw (← one.1) more.follows };
                }
