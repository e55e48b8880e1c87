-- Loops over the rounds and over the message schedule: what is left gives the same answer.
use Prim.Native.Nat.{ℕ, suc, ◌+◌, ◌-◌, ◌≤◌, ◌<◌, min}
use native.Mathlib.Numerals.{add-one}
use native.Mathlib.Omega.{arith}
use mathlib.Core.Path.{◌≡◌, refl, sym, ap, ◌∙◌}
use mathlib.Core.Logic.{◌⊎◌, inl, inr}
use mathlib.Core.Bool.{true, false}
use mathlib.Core.List.{List, [], ◌∷◌, ◌++◌}
use lib.Dec.{leb}
use lib.ListN.{length, take, drop, get_or, set, drop_of_length-le}
use lib.Seq.{length-take-le, get_or-take, take-suc-set, take_all}
use borrow.Author.Tests.{leb-true, leb-false}
use Rattle.spec_octets.proofs.ListLaws.{true_or_false}
use Rattle.spec_octets.proofs.Walks.{drop_step}
use Rattle.spec_digest.specs.Family.{State, Member, round, rounds, next_word, word_after, scheduled, schedule, extended, added, compress}

module _ (m : Member) where
  no_words : (s : State) (ks : List ℕ) → rounds m s ks [] ≡ s
  no_words s [] = refl
  no_words s (k ∷ ks) = refl

  module _ (v : State) (ks ws : List ℕ) (s : State) (t : ℕ) (left : rounds m v ks ws ≡ rounds m s (drop t ks) (drop t ws)) where
    pub rounds_turn :
        (s' : State) → t < length ks → t < length ws → s' ≡ round m s (get_or ks t 0) (get_or ws t 0) →
        rounds m v ks ws ≡ rounds m s' (drop (t + 1) ks) (drop (t + 1) ws)
    rounds_turn s' hk hw e = left ∙ rw (drop_step 0 ks t (t + 1) hk refl, drop_step 0 ws t (t + 1) hw refl, e)

    pub rounds_end : min (length ws) (length ks) ≤ t → s ≡ rounds m v ks ws
    rounds_end h = sym (left ∙ by (true_or_false (leb (length ks) t)))
      where
        by : (leb (length ks) t ≡ true) ⊎ (leb (length ks) t ≡ false) → rounds m s (drop t ks) (drop t ws) ≡ s
        by (inl e) = rw (drop_of_length-le ks (leb-true (length ks) t e))
        by (inr e) = rw (drop_of_length-le ws {i = t} (omega (arith, leb-false (length ks) t e))) (no_words s (drop t ks))

  -- The schedule of `all` words that begins with the first t words of ws. Not unfolded at a number, so that it stays one term.
  unfoldable pub scheduled_from : ℕ → ℕ → List ℕ → List ℕ
  scheduled_from all t ws = scheduled m (all - t) (take t ws)

  pub extended_start : (ws : List ℕ) → extended m ws ≡ scheduled_from (length ws) 16 ws
  unfolding extended scheduled_from
  extended_start ws = refl

  module _ (first ws : List ℕ) (t : ℕ) (left : extended m first ≡ scheduled_from (length first) t ws) (long : length ws ≡ length first) where
    pub extended_turn :
        (x : ℕ) → 16 ≤ t → t < length ws → x ≡ next_word m (get_or ws (t - 16) 0) (get_or ws (t - 15) 0) (get_or ws (t - 7) 0) (get_or ws (t - 2) 0) →
        extended m first ≡ scheduled_from (length first) (t + 1) (set ws t x)
    unfolding scheduled_from
    extended_turn x from below e =
        left ∙ ap (λ (c : ℕ). scheduled m c (take t ws)) fewer
        ∙ ap (λ (l : List ℕ). scheduled m (length first - (t + 1)) l) (ap (λ (y : ℕ). take t ws ++ (y ∷ [])) word ∙ sym grown)
      where
        fewer : length first - t ≡ suc (length first - (t + 1))
        fewer = omega arith

        taken : length (take t ws) ≡ t
        taken = length-take-le t ws (omega arith)

        word : word_after m (take t ws) (length (take t ws)) ≡ x
        word =
            rw (
              taken,
              get_or-take t ws (t - 16) 0 (omega arith),
              get_or-take t ws (t - 15) 0 (omega arith),
              get_or-take t ws (t - 7) 0 (omega arith),
              get_or-take t ws (t - 2) 0 (omega arith),
            )
            (sym e)

        grown : take (t + 1) (set ws t x) ≡ take t ws ++ (x ∷ [])
        grown = rw add-one (take-suc-set ws t x (omega arith))

    pub extended_end : length ws ≤ t → ws ≡ extended m first
    unfolding scheduled_from
    extended_end h = sym (left ∙ rw (none, take_all t ws h))
      where
        none : length first - t ≡ 0
        none = omega arith

  -- the steps for one block
  pub compress_steps :
      (v w r : State) (block x y : List ℕ) → take 16 x ≡ block → length x ≡ length m.constants → y ≡ extended m x →
      w ≡ rounds m v m.constants y → r ≡ added m v w → r ≡ compress m v block
  unfolding extended schedule compress
  compress_steps v w r block x y loaded long e f g = g ∙ rw (f, e, long, loaded)
