-- A field is known exactly when its octet is one of the known values.
use Rattle.std.specs.Option.{is_some}
use Rattle.std.specs.Prelude.{Option, Some, None}
use Prim.Native.Nat.{ℕ}
use mathlib.Core.Path.{◌≡◌, refl}
use mathlib.Core.Bool.{Bool, true, false, cond}
use Rattle.spec_tlsa.specs.Association.{is_usage, is_selector, is_matching_type}
use Rattle.tlsa_fields.specs.Fields.{usage_of, selector_of, matching_type_of}

given_if : {A : Type 0} (t : Bool) (v : A) → is_some (cond {A = Option A} t (Some v) None) ≡ t
given_if true v = refl
given_if false v = refl

module _ (x : ℕ) where
  pub known_usage : is_some (usage_of x) ≡ is_usage x
  unfolding usage_of
  known_usage = given_if (is_usage x) (record { 0 = x })

  pub known_selector : is_some (selector_of x) ≡ is_selector x
  unfolding selector_of
  known_selector = given_if (is_selector x) (record { 0 = x })

  pub known_matching_type : is_some (matching_type_of x) ≡ is_matching_type x
  unfolding matching_type_of
  known_matching_type = given_if (is_matching_type x) (record { 0 = x })
