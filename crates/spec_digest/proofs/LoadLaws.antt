-- A word loaded from its octets, and a block loaded word by word.
use Prim.Native.Nat.{ℕ, zero, suc, ◌+◌, ◌*◌, ◌≤◌, ◌<◌}
use native.Mathlib.Nat.{add-suc, mul-le-mul_right}
use native.Mathlib.Numerals.{add-one}
use native.Mathlib.Omega.{arith}
use mathlib.Core.Path.{◌≡◌, refl, sym, ap, ◌∙◌}
use mathlib.Core.List.{List, [], ◌∷◌, map}
use lib.ListN.{length, take, drop, get_or, set}
use lib.Seq.{drop-cons, drop-drop}
use Rattle.spec_octets.specs.Reader.{value_from}
use Rattle.spec_digest.specs.Padding.{cut, block_words}
use Rattle.spec_digest.specs.Members.{constants256, constants512, sha256, sha512}
use Rattle.spec_digest.proofs.CutLaws.{words_turn}

-- The octets at i + k, i + (k + 1), .., of which there are `count`.
abbrev pub listed : ℕ → ℕ → ℕ → List ℕ → List ℕ
listed zero k i s = []
listed (suc count) k i s = get_or s (i + k) 0 ∷ listed count (suc k) i s

octets_listed : (count k i : ℕ) (s : List ℕ) → i + k + count ≤ length s → take count (drop (i + k) s) ≡ listed count k i s
octets_listed zero k i s h = refl
octets_listed (suc count) k i s h =
    ap (take (suc count)) (drop-cons s (i + k) 0 (omega arith))
    ∙ ap (λ (l : List ℕ). get_or s (i + k) 0 ∷ l) (ap (λ (j : ℕ). take count (drop j s)) (sym (add-suc i k)) ∙ octets_listed count (suc k) i s (omega arith))

pub octets_from : (count i : ℕ) (s : List ℕ) → i + suc count ≤ length s → take (suc count) (drop i s) ≡ get_or s i 0 ∷ listed count 1 i s
octets_from count i s h =
    ap (take (suc count)) (drop-cons s i 0 (omega arith))
    ∙ ap (λ (l : List ℕ). get_or s i 0 ∷ l) (ap (λ (j : ℕ). take count (drop j s)) (sym (add-one i)) ∙ octets_listed count 1 i s (omega arith))

-- Word t of the block at an offset: its octets begin at i. `count` is one less than the octets of a word.
pub load_turn :
    (count : ℕ) (s ws : List ℕ) (at t i x : ℕ) → take t ws ≡ map (value_from 0) (cut t (suc count) (drop at s)) → t < length ws →
    at + 16 * suc count ≤ length s → t < 16 → i ≡ at + t * suc count → x ≡ value_from 0 (get_or s i 0 ∷ listed count 1 i s) →
    take (t + 1) (set ws t x) ≡ map (value_from 0) (cut (t + 1) (suc count) (drop at s))
load_turn count s ws at t i x before h room few place e =
    words_turn (suc count) (drop at s) ws t x before h (e ∙ ap (value_from 0) (sym word))
  where
    within : i + suc count ≤ length s
    within = omega (arith, mul-le-mul_right (suc count) few)

    word : take (suc count) (drop (t * suc count) (drop at s)) ≡ get_or s i 0 ∷ listed count 1 i s
    word = rw (drop-drop (t * suc count) at s, ← place) (octets_from count i s within)

pub load_end :
    (n : ℕ) (b ws : List ℕ) (t : ℕ) → take t ws ≡ map (value_from 0) (cut t n b) → t ≤ 16 → 16 ≤ t → take 16 ws ≡ block_words n b
unfolding block_words
load_end n b ws t h low high = let e : t ≡ 16 = omega arith in rw e at h

-- One constant for each round.
pub rounds_256 : 64 ≡ length sha256.constants
unfolding sha256 constants256
rounds_256 = refl

pub rounds_512 : 80 ≡ length sha512.constants
unfolding sha512 constants512
rounds_512 = refl
