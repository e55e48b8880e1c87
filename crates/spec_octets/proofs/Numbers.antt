-- A number of k octets is read exactly where it is written in network byte order.
use Rattle.std.specs.Prelude.{Some}
use Prim.Native.Nat.{ℕ, zero, suc, ◌+◌, ◌*◌, ◌/◌, ◌%◌, ◌^◌, ◌<◌}
use native.Mathlib.Omega.{arith}
use native.Mathlib.Nat.{pow-suc}
use mathlib.Core.Path.{◌≡◌, refl, sym, subst, ◌∙◌}
use mathlib.Core.List.{List, [], ◌∷◌, ◌++◌}
use lib.ListN.{length, take, get_or, length-append}
use lib.Seq.{take_all, take-suc, length-take-le}
use Rattle.spec_octets.specs.Lists.{all_nil, all_cons}
use Rattle.spec_octets.specs.Octets.{Octets}
use Rattle.spec_octets.specs.Reader.{Reader, octets, pure, value_from, number, in_octets}
use Rattle.spec_octets.specs.Theorems.{NumbersHighOctetFirst, NumbersWritten}
use Rattle.spec_octets.proofs.ReaderLaws.{bind_some, octets_some, pure_some}
use Rattle.spec_octets.proofs.ListLaws.{All-head, All-front, All-rest, All-join}

-- the last octet is the low one
pub value_snoc : (n : ℕ) (a : List ℕ) (x : ℕ) → value_from n (a ++ (x ∷ [])) ≡ value_from n a * 256 + x
value_snoc n [] x = refl
value_snoc n (y ∷ a) x = value_snoc (n * 256 + y) a x

pub length_in_octets : (k n : ℕ) → length (in_octets k n) ≡ k
length_in_octets zero n = refl
length_in_octets (suc k) n = rw (length-append, length_in_octets k (n / 256)) (omega arith)

-- what was written is read
value_in_octets : (k n : ℕ) → n < 256 ^ k → value_from 0 (in_octets k n) ≡ n
value_in_octets zero n h = omega arith
value_in_octets (suc k) n h =
    let small = rw pow-suc at h in
    rw (value_snoc, value_in_octets k (n / 256) (omega arith)) (omega arith)

octets_in_octets : (k n : ℕ) → Octets (in_octets k n)
octets_in_octets zero n = all_nil
octets_in_octets (suc k) n = All-join (octets_in_octets k (n / 256)) (all_cons (omega arith) all_nil)

pub numbers_written : NumbersWritten
numbers_written k n h = (length_in_octets k n, octets_in_octets k n, value_in_octets k n h)

-- a is its value written
abbrev Written : ℕ → List ℕ → Type 0
Written k a = (a ≡ in_octets k (value_from 0 a)) × (value_from 0 a < 256 ^ k)

written_snoc : (k : ℕ) (a : List ℕ) (x : ℕ) → Written k a → x < 256 → Written (suc k) (a ++ (x ∷ []))
written_snoc k a x w h =
    let v = value_from 0 a in
    let high : (v * 256 + x) / 256 ≡ v = omega arith in
    let low : (v * 256 + x) % 256 ≡ x = omega arith in
    rw value_snoc (rw (high, low, ← w.0) refl, rw pow-suc (omega arith))

written : (k : ℕ) (a : List ℕ) → length a ≡ k → Octets a → Written k a
written zero [] l o = (refl, omega arith)
written zero (x ∷ a) l o = absurd (omega arith)
written (suc k) a l o =
    subst (Written (suc k)) (sym last)
    (written_snoc k front x (written k front (length-take-le k a (omega arith)) (All-front front (x ∷ []) o')) (All-head (All-rest front (x ∷ []) o')))
  where
    front : List ℕ
    front = take k a

    x : ℕ
    x = get_or a k 0

    last : a ≡ front ++ (x ∷ [])
    last = sym (take_all (suc k) a (omega arith)) ∙ take-suc a k 0 (omega arith)

    o' : Octets (front ++ (x ∷ []))
    o' = subst Octets last o

pub numbers_high_octet_first : NumbersHighOctetFirst
unfolding number
numbers_high_octet_first k s o n rest =
    (λ h. let (a, mid, taken, v) = (bind_some (octets k) value s n rest).0 h in found a mid taken v, λ h. stands h.0 h.1)
  where
    value : List ℕ → Reader ℕ
    value a = pure (value_from 0 a)

    found : (a mid : List ℕ) → octets k s ≡ Some (a, mid) → value a mid ≡ Some (n, rest) → (s ≡ in_octets k n ++ rest) × (n < 256 ^ k)
    found a mid taken h =
        let (front, l) = (octets_some k s a mid).0 taken in
        let (v, r) = (pure_some (value_from 0 a) n mid rest).0 h in
        let (w, small) = written k a l (All-front a mid (rw front at o)) in
        (rw (← v, ← r, ← w) front, rw (← v) small)

    stands : s ≡ in_octets k n ++ rest → n < 256 ^ k → number k s ≡ Some (n, rest)
    stands e small =
        (bind_some (octets k) value s n rest).1
        (in_octets k n, rest, (octets_some k s _ rest).1 (e, length_in_octets k n), (pure_some _ n rest rest).1 (value_in_octets k n small, refl))
