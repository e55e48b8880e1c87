-- Names joined one by one are each there once.
use Prim.Native.Nat.{ℕ}
use mathlib.Core.Path.{◌≡◌, refl, sym, ap, ◌∙◌, fun_ext}
use mathlib.Core.Bool.{Bool, true, false, cond, not, ◌&&◌, ◌||◌}
use mathlib.Core.List.{List, [], ◌∷◌, ◌++◌, append-nil, append_assoc}
use Rattle.spec_octets.specs.Lists.{any, cons_if, select}
use Rattle.spec_octets.specs.Octets.{same}
use Rattle.spec_octets.proofs.Texts.{same_equal}
use Rattle.spec_octets.proofs.SelectTests.{select_every, select_twice, any_behind}
use Rattle.spec_rule.specs.IssuerLists.{distinct}
use Rattle.spec_rule.proofs.DistinctLaws.{is_other_lem}

-- the names so far, and behind them each of the others where it first stands
abbrev pub joined : List (List ℕ) → List (List ℕ) → List (List ℕ)
joined ms [] = ms
joined ms (n ∷ ns) = joined (cond (any (same n) ms) ms (ms ++ (n ∷ []))) ns

-- what is not yet among those so far
abbrev is_new : List (List ℕ) → List ℕ → Bool
is_new ms n = not (any (same n) ms)

is_new_behind : (ms : List (List ℕ)) (n m : List ℕ) → is_new (ms ++ (n ∷ [])) m ≡ is_other_lem n m && is_new ms m
is_new_behind ms n m = rw (any_behind (same m) ms n) (neither (same m n) (any (same m) ms))
  where
    neither : (s t : Bool) → not (s || t) ≡ not s && not t
    neither true t = refl
    neither false t = refl

joined_behind : (ms ns : List (List ℕ)) → joined ms ns ≡ ms ++ select (is_new ms) (distinct ns)
joined_behind ms [] = sym (append-nil ms)
joined_behind ms (n ∷ ns) = go (any (same n) ms) refl (λ ls. joined_behind ls ns)
  where
    rest : List (List ℕ)
    rest = distinct ns

    -- n itself is not new
    known : any (same n) ms ≡ true → (m : List ℕ) (t : Bool) → same m n ≡ t → not t && is_new ms m ≡ is_new ms m
    known e m true k = rw ((same_equal m n).0 k, e) refl
    known e m false k = refl

    go :
        (t : Bool) → any (same n) ms ≡ t → ((ls : List (List ℕ)) → joined ls ns ≡ ls ++ select (is_new ls) rest) →
        joined (cond t ms (ms ++ (n ∷ []))) ns ≡ ms ++ cons_if (not t) n (select (is_new ms) (select (is_other_lem n) rest))
    go true e later =
        later ms ∙ ap (◌++◌ ms) (ap (λ p. select p rest) (fun_ext (λ m. sym (known e m (same m n) refl))) ∙ sym (select_twice (is_other_lem n) (is_new ms) rest))
    go false e later =
        later (ms ++ (n ∷ [])) ∙ append_assoc ms (n ∷ []) (select (is_new (ms ++ (n ∷ []))) rest)
        ∙ ap (λ ls. ms ++ (n ∷ ls)) (ap (λ p. select p rest) (fun_ext (is_new_behind ms n)) ∙ sym (select_twice (is_other_lem n) (is_new ms) rest))

pub joined_distinct : (ns : List (List ℕ)) → joined [] ns ≡ distinct ns
joined_distinct ns = joined_behind [] ns ∙ select_every (distinct ns)
