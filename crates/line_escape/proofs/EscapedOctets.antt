-- One octet of a value, escaped and written at the start of a buffer.
use Prim.Native.Nat.{ℕ, ◌+◌, ◌-◌, ◌≤◌, ◌<◌}
use native.Mathlib.Omega.{arith}
use mathlib.Core.Path.{◌≡◌}
use mathlib.Core.Logic.{◌⊎◌, inl, inr}
use mathlib.Core.List.{List, ◌++◌}
use lib.ListN.{length, take, drop, set, length-set}
use mir.Syntax.{w64}
use mir.Val.{Fits}
use Rattle.spec_octets.specs.Buffer.{Put, filled, filled_length}
use Rattle.text_buffer.proofs.Filled.{no_room_answer, no_room_octets, put_answer, put_octets, put_room}
use Rattle.text_buffer.proofs.LentRest.{rest_room, put_one, put_two, put_more}
use Rattle.spec_octets.specs.WrittenDecimal.{three_digits}
use Rattle.spec_line.specs.Written.{backslash, escaped}
use Rattle.spec_line.proofs.LineLength.{Form, itself, behind_backslash, in_digits, form}

module _ (b n : ℕ) (told : n ≡ length (escaped b)) (d : List ℕ) where
  pub no_octets_answer : length d < n → 0 ≡ filled_length (escaped b) d
  no_octets_answer h = no_room_answer (escaped b) d (rw told at h)

  pub no_octets_put : length d < n → d ≡ filled (escaped b) d
  no_octets_put h = no_room_octets (escaped b) d (rw told at h)

module _ (b n : ℕ) (told : n ≡ length (escaped b)) (d : List ℕ) (fits : n ≤ length d) where
  room : length (escaped b) ≤ length d
  room = rw told at fits

  long : Form b (escaped b) → (1 ≤ n) × (n ≤ length d) × ((n ≡ 1) ⊎ ((n ≡ 2) ⊎ (n ≡ 4)))
  long (itself f) = let l = rw f at told in (omega arith, omega arith, inl l)
  long (behind_backslash f) = let l = rw f at told in (omega arith, omega arith, inr (inl l))
  long (in_digits f) = let l = rw f at told in (omega arith, omega arith, inr (inr l))

  pub room_for_one : 1 ≤ length d
  room_for_one = omega (arith, long (form b))

  pub room_for_two : (n ≡ 1 → ⊥) → 2 ≤ length d
  room_for_two p = go (long (form b)).2
    where
      go : (n ≡ 1) ⊎ ((n ≡ 2) ⊎ (n ≡ 4)) → 2 ≤ length d
      go (inl e) = absurd (p e)
      go (inr (inl e)) = omega (arith, long (form b))
      go (inr (inr e)) = omega (arith, long (form b))

  pub room_for_four : (n ≡ 1 → ⊥) → (n ≡ 2 → ⊥) → 4 ≤ length d
  room_for_four p q = go (long (form b)).2
    where
      go : (n ≡ 1) ⊎ ((n ≡ 2) ⊎ (n ≡ 4)) → 4 ≤ length d
      go (inl e) = absurd (p e)
      go (inr (inl e)) = absurd (q e)
      go (inr (inr e)) = omega arith

  one_escaped : n ≡ 1 → Put (escaped b) d (set d 0 b) 1
  one_escaped e = go (form b)
    where
      go : Form b (escaped b) → Put (escaped b) d (set d 0 b) 1
      go (itself f) = rw f (put_one b d room_for_one)
      go (behind_backslash f) = let l = rw f at told in absurd (omega arith)
      go (in_digits f) = let l = rw f at told in absurd (omega arith)

  pub one_answer : n ≡ 1 → 1 ≡ filled_length (escaped b) d
  one_answer e = put_answer (escaped b) d room (set d 0 b) 1 (one_escaped e)

  pub one_octets : n ≡ 1 → set d 0 b ≡ filled (escaped b) d
  one_octets e = put_octets (escaped b) d room (set d 0 b) 1 (one_escaped e)

  two_escaped : n ≡ 2 → Put (escaped b) d (set (set d 0 backslash) 1 b) 2
  two_escaped e = go (form b)
    where
      go : Form b (escaped b) → Put (escaped b) d (set (set d 0 backslash) 1 b) 2
      go (itself f) = let l = rw f at told in absurd (omega arith)
      go (behind_backslash f) = rw f (put_two backslash b d (room_for_two (λ o. absurd (omega arith))))
      go (in_digits f) = let l = rw f at told in absurd (omega arith)

  pub two_answer : n ≡ 2 → 2 ≡ filled_length (escaped b) d
  two_answer e = put_answer (escaped b) d room (set (set d 0 backslash) 1 b) 2 (two_escaped e)

  pub two_octets : n ≡ 2 → set (set d 0 backslash) 1 b ≡ filled (escaped b) d
  two_octets e = put_octets (escaped b) d room (set (set d 0 backslash) 1 b) 2 (two_escaped e)

  -- the digits behind the backslash
  module _ (p : n ≡ 1 → ⊥) (q : n ≡ 2 → ⊥) (y : List ℕ) (m : ℕ) where
    abbrev begun : List ℕ
    begun = set d 0 backslash

    abbrev lent : List ℕ
    lent = take (length begun - 1) (drop 1 begun)

    digits_put : y ≡ filled (three_digits b) lent → m ≡ filled_length (three_digits b) lent → Put (three_digits b) lent y m
    digits_put = put_room (three_digits b) lent (rest_room begun 1 3 (rw length-set (omega (arith, room_for_four p q)))) y m

    module _ (f : y ≡ filled (three_digits b) lent) (g : m ≡ filled_length (three_digits b) lent) where
      pub four_fits : Fits w64 (1 + m)
      four_fits = record { fits = omega (arith, (digits_put f g).count) }

      four_escaped : Put (escaped b) d (take 1 begun ++ (y ++ drop (length begun - 1) (drop 1 begun))) (1 + m)
      four_escaped = go (form b)
        where
          go : Form b (escaped b) → Put (escaped b) d (take 1 begun ++ (y ++ drop (length begun - 1) (drop 1 begun))) (1 + m)
          go (itself e) = let l = rw e at told in absurd (p l)
          go (behind_backslash e) = let l = rw e at told in absurd (q l)
          go (in_digits e) = put_more (put_one backslash d room_for_one) (three_digits b) (escaped b) e y m (digits_put f g)

      pub four_answer : 1 + m ≡ filled_length (escaped b) d
      four_answer = put_answer (escaped b) d room (take 1 begun ++ (y ++ drop (length begun - 1) (drop 1 begun))) (1 + m) four_escaped

      pub four_octets : take 1 begun ++ (y ++ drop (length begun - 1) (drop 1 begun)) ≡ filled (escaped b) d
      four_octets = put_octets (escaped b) d room (take 1 begun ++ (y ++ drop (length begun - 1) (drop 1 begun))) (1 + m) four_escaped
