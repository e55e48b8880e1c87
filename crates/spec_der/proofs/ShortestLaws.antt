-- The length octets of an element are the shortest that give the length.
use Prim.Native.Nat.{ℕ, ◌+◌, ◌/◌, ◌%◌, ◌≤◌, ◌<◌, ◌^◌}
use native.Mathlib.Omega.{arith}
use mathlib.Core.Path.{◌≡◌, refl, ◌∙◌}
use mathlib.Core.Logic.{◌↔◌, ◌≢◌, inl, inr}
use mathlib.Core.List.{List, [], ◌∷◌, cons≢nil}
use lib.ListN.{length}
use Rattle.spec_octets.specs.Lists.{all_nil, all_cons}
use Rattle.spec_octets.specs.Octets.{Octets}
use Rattle.spec_octets.specs.Reader.{value_from, in_octets}
use Rattle.spec_octets.proofs.ListLaws.{All-head, All-tail}
use Rattle.spec_octets.proofs.Numbers.{numbers_written}
use Rattle.spec_der.specs.Elements.{wire_length}
use Rattle.spec_der.specs.Theorems.{GivesLength, LengthShortest}
use Rattle.spec_der.proofs.LengthLaws.{by_length}

module _ (n : ℕ) where
  -- what gives n, by the number of octets: one, two, three or more
  one : (l : List ℕ) → GivesLength n l → 1 ≤ length l
  one l (inl k) = rw k.1 (omega arith)
  one l (inr k) = rw k.2 (omega arith)

  two : (l : List ℕ) → 128 ≤ n → GivesLength n l → 2 ≤ length l
  two l h (inl k) = absurd (omega (arith, k.0))
  two l h (inr (more, full, e, v)) = rw e (by more full)
    where
      by : (more : List ℕ) → more ≢ [] → 2 ≤ length ((128 + length more) ∷ more)
      by [] full = absurd (full refl)
      by (x ∷ more) full = omega arith

  three : (l : List ℕ) → 256 ≤ n → Octets l → GivesLength n l → 3 ≤ length l
  three l h o (inl k) = absurd (omega (arith, k.0))
  three l h o (inr (more, full, e, v)) = rw e (by more full v (All-tail (rw e at o)))
    where
      by : (more : List ℕ) → more ≢ [] → value_from 0 more ≡ n → Octets more → 3 ≤ length ((128 + length more) ∷ more)
      by [] full v o = absurd (full refl)
      by (x ∷ []) full v o = absurd (omega (arith, All-head o))
      by (x ∷ y ∷ more) full v o = omega arith

  -- of that many octets, there is one that gives n
  only_one : (l : List ℕ) → length l ≤ 1 → GivesLength n l → l ≡ n ∷ []
  only_one l h (inl k) = k.1
  only_one l h (inr (more, full, e, v)) = absurd (by more full (rw e at h))
    where
      by : (more : List ℕ) → more ≢ [] → length ((128 + length more) ∷ more) ≤ 1 → ⊥
      by [] full h = full refl
      by (x ∷ more) full h = omega arith

  only_two : (l : List ℕ) → 128 ≤ n → length l ≤ 2 → GivesLength n l → l ≡ 129 ∷ n ∷ []
  only_two l m h (inl k) = absurd (omega (arith, k.0))
  only_two l m h (inr (more, full, e, v)) = e ∙ by more full v (rw e at h)
    where
      by : (more : List ℕ) → more ≢ [] → value_from 0 more ≡ n → length ((128 + length more) ∷ more) ≤ 2 → (128 + length more) ∷ more ≡ 129 ∷ n ∷ []
      by [] full v h = absurd (full refl)
      by (x ∷ []) full v h = let e : x ≡ n = omega arith in rw e refl
      by (x ∷ y ∷ more) full v h = absurd (omega arith)

  only_three : (l : List ℕ) → 256 ≤ n → Octets l → length l ≤ 3 → GivesLength n l → l ≡ 130 ∷ in_octets 2 n
  only_three l m o h (inl k) = absurd (omega (arith, k.0))
  only_three l m o h (inr (more, full, e, v)) = e ∙ by more full v (All-tail (rw e at o)) (rw e at h)
    where
      by :
          (more : List ℕ) → more ≢ [] → value_from 0 more ≡ n → Octets more → length ((128 + length more) ∷ more) ≤ 3 →
          (128 + length more) ∷ more ≡ 130 ∷ in_octets 2 n
      by [] full v o h = absurd (full refl)
      by (x ∷ []) full v o h = absurd (omega (arith, All-head o))
      by (x ∷ y ∷ []) full v o h =
          let a = All-head o in
          let b = All-head (All-tail o) in
          let high : n / 256 % 256 ≡ x = omega arith in
          let low : n % 256 ≡ y = omega arith in
          rw (high, low) refl
      by (x ∷ y ∷ z ∷ more) full v o h = absurd (omega arith)

  abbrev Shortest : List ℕ → Type 0
  Shortest l = Octets l × GivesLength n l × ((m : List ℕ) → Octets m → GivesLength n m → length l ≤ length m)

  one_shortest : n < 128 → Shortest (n ∷ [])
  one_shortest h = (all_cons {x = n} (omega arith) all_nil, inl (h, refl), λ m p g. one m g)

  two_shortest : 128 ≤ n → n < 256 → Shortest (129 ∷ n ∷ [])
  two_shortest h i = (
    all_cons {x = 129} (omega arith) (all_cons {x = n} i all_nil),
    inr (n ∷ [], cons≢nil, refl, omega arith),
    λ m p g. two m h g,
  )

  three_shortest : 256 ≤ n → n < 2 ^ 16 → Shortest (130 ∷ in_octets 2 n)
  three_shortest h k =
      let (l, o, v) = numbers_written 2 n (omega arith) in
      (all_cons {x = 130} (omega arith) o, inr (in_octets 2 n, cons≢nil, refl, v), λ m p g. three m h p g)

  settled :
      (w : List ℕ) → wire_length n ≡ w → Shortest w → ((l : List ℕ) → Octets l → length l ≤ length w → GivesLength n l → l ≡ w) → (l : List ℕ) →
      (l ≡ wire_length n) ↔ Shortest l
  settled w e best only l = rw e (λ f. rw f best, λ k. only l k.0 (k.2 w best.0 best.1) k.1)

pub length_shortest : LengthShortest
length_shortest n small =
    by_length n
    (λ h w. settled n (n ∷ []) w (one_shortest n h) (λ l o. only_one n l))
    (λ h i w. settled n (129 ∷ n ∷ []) w (two_shortest n h i) (λ l o. only_two n l h))
    (λ h w. settled n (130 ∷ in_octets 2 n) w (three_shortest n h small) (λ l. only_three n l h))
