-- The answer of a call, packed.
use mathlib.Core.Path.{◌≡◌, ap, ◌∙◌}

-- x is what the call returned, and y what its contract says.
pub told_packed : {A B : Type 0} (f : A → B) (r : B) (x y : A) → x ≡ y → r ≡ f x → r ≡ f y
told_packed f r x y e p = p ∙ ap f e
