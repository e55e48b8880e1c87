-- A chain goes on behind each record as from there: the number of links is steps enough.
use Prim.Native.Nat.{ℕ, zero, suc, ◌+◌, ◌≤◌, ◌<◌}
use native.Mathlib.Omega.{arith}
use mathlib.Core.Path.{◌≡◌, refl}
use mathlib.Core.Logic.{⊎_elim}
use mathlib.Core.Bool.{Bool, true, false, cond}
use mathlib.Core.List.{List, [], ◌∷◌}
use lib.Dec.{ltb}
use lib.ListN.{length, get_or}
use borrow.Author.Tests.{ltb-true, le-ltb}
use Rattle.spec_octets.proofs.ListLaws.{true_or_false}
use Rattle.book_places.specs.Chains.{behind, along, chain_from}

-- behind a record that has a link comes a later one, or the end
pub behind_later : (links : List ℕ) (i : ℕ) → i < length links → i < behind links i
unfolding behind
behind_later links i h =
    ⊎_elim (λ e. rw e (omega (arith, ltb-true i (get_or links i 0) e))) (λ e. rw e h) (true_or_false (ltb i (get_or links i 0)))

-- any number of steps that is enough gives the same records
steps_enough : (links : List ℕ) (f g i : ℕ) → length links ≤ i + f → length links ≤ i + g → along f links i ≡ along g links i
steps_enough links zero zero i h k = refl
steps_enough links zero (suc g) i h k = rw (le-ltb i (length links) (omega arith))
steps_enough links (suc f) zero i h k = rw (le-ltb i (length links) (omega arith))
steps_enough links (suc f) (suc g) i h k = go (ltb i (length links)) refl (steps_enough links f g (behind links i))
  where
    go :
        (t : Bool) → ltb i (length links) ≡ t →
        (length links ≤ behind links i + f → length links ≤ behind links i + g → along f links (behind links i) ≡ along g links (behind links i)) →
        cond t (i ∷ along f links (behind links i)) [] ≡ cond t (i ∷ along g links (behind links i)) []
    go true e ih = let later = behind_later links i (ltb-true i (length links) e) in rw (ih (omega arith) (omega arith))
    go false e ih = refl

pub chain_step :
    (links : List ℕ) (i : ℕ) → chain_from links i ≡ cond (ltb i (length links)) (i ∷ chain_from links (behind links i)) []
unfolding chain_from
chain_step links i = steps_enough links (length links) (suc (length links)) i (omega arith) (omega arith)
