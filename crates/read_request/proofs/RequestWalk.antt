-- check_request step by step: the length, then name by name. With k names read, reading on from offset `at` gives the result.
use Rattle.std.specs.Prelude.{Option, None, Some, Ok, Err}
use Prim.Native.Nat.{ℕ, ◌≤◌, ◌<◌, ◌+◌}
use native.Mathlib.Omega.{arith}
use mathlib.Core.Path.{◌≡◌, refl}
use mathlib.Core.Bool.{true, false}
use mathlib.Core.List.{List, [], ◌∷◌}
use lib.ListN.{length}
use borrow.Author.Tests.{lt-ltb, le-ltb}
use Rattle.spec_limits.specs.Limits.{max_request_octets, max_names}
use Rattle.spec_refusal.specs.Checks.{checked}
use Rattle.spec_refusal.specs.declared.Refusal.{Refusal}
use Rattle.spec_refusal.specs.declared.Refusal.TheVariants.{RequestTooLong, BadName, TooManyNames}
use Rattle.spec_octets.specs.Lists.{is_empty}
use Rattle.spec_octets.specs.Items.{items}
use Rattle.spec_octets.proofs.ItemWalk.{Walked, walk_start, walk_end, walk_over, walk_broken, walk_on}
use Rattle.read_request.specs.declared.Requested.{Requested}
use Rattle.spec_request.specs.Request.{requested_name, name_items, name_refusal, request_refusal}
use Rattle.read_request.specs.Places.{requested_at}
use Rattle.read_request.proofs.RequestPlaces.{requested_there, name_broken}

-- the loop's invariant
abbrev pub NamesRead : List ℕ → ℕ → ℕ → Type 0
NamesRead s at k = Walked requested_name (λ k. BadName (record { 0 = k })) TooManyNames max_names s k at

empty : (s : List ℕ) → length s ≡ 0 → is_empty s ≡ true
empty [] e = refl
empty (x ∷ s) e = absurd (omega arith)

full : (s : List ℕ) → (length s ≡ 0 → ⊥) → is_empty s ≡ false
full [] n = absurd (n refl)
full (x ∷ s) n = refl

module _ (s : List ℕ) where
  pub too_long : max_request_octets < length s → Err RequestTooLong ≡ checked (request_refusal s)
  unfolding request_refusal
  too_long h = rw (lt-ltb max_request_octets (length s) h)

  pub nothing : length s ≡ 0 → length s ≤ max_request_octets → Err (BadName (record { 0 = 0 })) ≡ checked (request_refusal s)
  unfolding request_refusal
  nothing e h = rw (le-ltb max_request_octets (length s) h, empty s e)

  pub names_start : (at k : ℕ) → at ≡ 0 → k ≡ 0 → NamesRead s at k
  names_start at k e f = walk_start _ _ _ _ s k at f e

  module _ (at k : ℕ) (w : NamesRead s at k) (h : length s ≤ max_request_octets) (some-octet : length s ≡ 0 → ⊥) where
    by_names : (r : Option Refusal) → name_refusal (items requested_name max_names s) ≡ r → checked r ≡ checked (request_refusal s)
    unfolding request_refusal name_items
    by_names r e = rw (le-ltb max_request_octets (length s) h, full s some-octet, e)

    pub all_read : length s ≤ at → (Ok tt) ≡ checked (request_refusal s)
    all_read l = by_names None (walk_end w l)

    module _ (l : at < length s) where
      pub too_many : k ≡ max_names → Err TooManyNames ≡ checked (request_refusal s)
      too_many e = by_names (Some TooManyNames) (walk_over w l e)

      module _ (more : k ≡ max_names → ⊥) (o : Option Requested) (f : o ≡ requested_at s at) where
        pub bad_name_lem : o ≡ None → Err (BadName (record { 0 = k })) ≡ checked (request_refusal s)
        bad_name_lem g = by_names (Some (BadName (record { 0 = k }))) (walk_broken w l more (name_broken s at o f g))

        pub name_read : (r : Requested) → o ≡ Some r → (k' : ℕ) → k' ≡ k + 1 → NamesRead s r.next k'
        name_read r g k' e =
            let (n, to) = requested_there s at o f r g in
            walk_on w l more n k' r.next to.found e
