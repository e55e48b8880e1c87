-- The values of an answer are in their order.
use mathlib.Core.Path.{refl}
use Rattle.spec_answers.specs.Pinned.{ValuesInOrder}

pub values_in_order : ValuesInOrder
values_in_order = (λ n a b c. (refl, refl, refl), λ n a b. (refl, refl, refl), λ n a. (refl, refl, refl), λ n. (refl, refl, refl))
