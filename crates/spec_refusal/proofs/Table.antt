-- The table of refusals and the order of checks, by computing; and a refusal from its number and place.
use Prim.Native.Nat.{ℕ}
use mathlib.Core.Path.{◌≡◌, refl, sym, ap₂, ◌∙◌}
use mathlib.Core.Bool.{cond}
use lib.Dec.{eqb}
use Rattle.spec_refusal.specs.declared.Refusal.{Refusal}
use Rattle.spec_refusal.specs.declared.Refusal.TheVariants.{RequestTooLong, BadName, TooManyNames, BadIssuer, BookTooLong, BadRecord, TooManyRecords, NoRoom, BadLine, LineTooLong, BadData, AliasConflict, SessionEnded, BadAccountOrMethod}
use Rattle.spec_refusal.specs.Refusal.{number, place}
use Rattle.spec_refusal.specs.Theorems.{RefusalTable, NumberAndPlaceTell, OrderPrinted}

pub refusal_table : RefusalTable
unfolding number place
refusal_table k r n = (refl, refl)

pub order_printed : OrderPrinted
unfolding number
order_printed = (refl, λ k r n. (refl, refl))

-- the refusal of a number and a place
back : ℕ → ℕ → Refusal
back n p =
    cond (eqb n 1) RequestTooLong
    (cond (eqb n 2) (BadName (record { 0 = p }))
    (cond (eqb n 3) TooManyNames
    (cond (eqb n 4) BadIssuer
    (cond (eqb n 5) BookTooLong
    (cond (eqb n 6) (BadRecord (record { 0 = p }))
    (cond (eqb n 7) TooManyRecords (cond (eqb n 8) (NoRoom p) (cond (eqb n 9) BadLine (cond (eqb n 10) LineTooLong (cond (eqb n 11) BadData
    (cond (eqb n 12) (AliasConflict (record { 0 = p })) (cond (eqb n 14) SessionEnded BadAccountOrMethod))))))))))))

back_is : (r : Refusal) → back (number r) (place r) ≡ r
unfolding back number place
back_is RequestTooLong = refl
back_is (BadName k) = refl
back_is TooManyNames = refl
back_is BadIssuer = refl
back_is BookTooLong = refl
back_is (BadRecord r) = refl
back_is TooManyRecords = refl
back_is (NoRoom n) = refl
back_is BadLine = refl
back_is LineTooLong = refl
back_is BadData = refl
back_is (AliasConflict r) = refl
back_is SessionEnded = refl
back_is BadAccountOrMethod = refl

pub number_and_place_tell : NumberAndPlaceTell
number_and_place_tell p q n l = sym (back_is p) ∙ ap₂ back n l ∙ back_is q
