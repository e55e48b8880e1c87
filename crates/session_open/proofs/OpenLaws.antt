-- The ways out of the functions that open a session.
use Rattle.std.specs.Prelude.{Option, None, Some, Ok, Err}
use Prim.Native.Nat.{ℕ, ◌≤◌, ◌<◌}
use native.Mathlib.Omega.{arith}
use mathlib.Core.Path.{◌≡◌, refl, ap, ◌∙◌}
use mathlib.Core.List.{List, [], ◌∷◌}
use lib.ListN.{length, drop, drop_of_length-le, length-drop}
use borrow.Author.Tests.{lt-ltb, le-ltb}
use Rattle.spec_limits.specs.Limits.{max_request_octets}
use Rattle.spec_refusal.specs.declared.Refusal.TheVariants.{RequestTooLong, BadName}
use Rattle.spec_refusal.specs.Checks.{checked}
use Rattle.spec_name.specs.Names.{Name}
use Rattle.spec_request.specs.Request.{requested_name}
use Rattle.read_request.specs.declared.Requested.{Requested}
use Rattle.read_request.specs.Places.{requested_at}
use Rattle.read_request.proofs.RequestPlaces.{RequestedTo, name_broken, requested_there}
use Rattle.spec_session.specs.Steps.{rest_refusal, one_name_refusal}

module _ (s : List ℕ) where
  pub too_long : max_request_octets < length s → Err RequestTooLong ≡ checked (one_name_refusal s)
  unfolding one_name_refusal
  too_long h = rw (lt-ltb max_request_octets (length s) h)

  module _ (few : length s ≤ max_request_octets) (o : Option Requested) (f : o ≡ requested_at s 0) where
    read : one_name_refusal s ≡ rest_refusal (requested_name s)
    unfolding one_name_refusal
    read = rw (le-ltb max_request_octets (length s) few)

    pub no_name : o ≡ None → Err (BadName (record { 0 = 0 })) ≡ checked (one_name_refusal s)
    no_name e = rw (read, name_broken s 0 o f e)

    module _ (r : Requested) (g : o ≡ Some r) where
      there : (n : Name) × RequestedTo s 0 r n
      there = requested_there s 0 o f r g

      found : one_name_refusal s ≡ rest_refusal (Some (there.0, drop r.next s))
      found = read ∙ ap rest_refusal there.1.found

      pub more_octets : r.next < length s → Err (BadName (record { 0 = 1 })) ≡ checked (one_name_refusal s)
      more_octets h = rw found (go (drop r.next s) (omega (arith, length-drop r.next s)))
        where
          go : (rest : List ℕ) → 0 < length rest → Err (BadName (record { 0 = 1 })) ≡ checked (rest_refusal (Some (there.0, rest)))
          go [] h = absurd (omega arith)
          go (x ∷ rest) h = refl

      pub one_name : length s ≤ r.next → (Ok tt) ≡ checked (one_name_refusal s)
      one_name h = rw (found, drop_of_length-le s {i = r.next} h) refl
