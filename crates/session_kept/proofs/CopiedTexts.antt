-- A text is kept: the octets that fit, and zeros behind them.
use Prim.Native.Nat.{ℕ, ◌-◌, ◌≤◌, min}
use native.Mathlib.Omega.{arith}
use mathlib.Core.Path.{◌≡◌, refl, ap, sym}
use mathlib.Core.Bool.{Bool, true, false}
use mathlib.Core.List.{List, ◌++◌, append-nil}
use lib.Dec.{leb}
use lib.ListN.{length, take, drop, replicate}
use lib.Seq.{take-length, take-append-le}
use borrow.Author.Tests.{leb-true, leb-false}
use Rattle.std.proofs.Math.Nat.{min-le_left, min-le_right, le-min}
use Rattle.std.proofs.lemmas.List.{drop-replicate}
use Rattle.spec_session.specs.declared.Text.{Text}
use Rattle.spec_session.specs.Sessions.{max_text_octets, text_of}
use Rattle.spec_session.proofs.Texts.{texts_kept}

module _ (s : List ℕ) where
  fits : length s ≤ 256 → s ++ replicate (256 - length s) 0 ≡ (text_of s).octets
  unfolding max_text_octets
  fits h = sym ((texts_kept s).1 h).1

  fills : 256 ≤ length s → take 256 s ≡ (text_of s).octets
  unfolding text_of max_text_octets
  fills h = sym (take-append-le 256 s (replicate 256 0) h)

  octets_kept : (n : ℕ) → n ≡ min (length s) 256 → take n s ++ replicate (256 - n) 0 ≡ (text_of s).octets
  octets_kept n e = go (leb (length s) 256) refl
    where
      go : (b : Bool) → leb (length s) 256 ≡ b → take n s ++ replicate (256 - n) 0 ≡ (text_of s).octets
      go true h =
          let k = leb-true (length s) 256 h in
          let all : n ≡ length s = omega (arith, min-le_left (length s) 256, le-min {k = length s} {a = length s} {b = 256} (omega arith) k) in
          rw (all, take-length s) (fits k)
      go false h =
          let k = leb-false (length s) 256 h in
          let full : n ≡ 256 = omega (arith, min-le_right (length s) 256, le-min {k = 256} {a = length s} {b = 256} (omega arith) (omega arith)) in
          rw (full, append-nil (take 256 s)) (fills (omega arith))

  as_kept : (o : List ℕ) → o ≡ (text_of s).octets → ◌≡◌ {A = Text} (record { length = length s; octets = o }) (text_of s)
  unfolding text_of
  as_kept o e = ap (λ o. record { length = length s; octets = o }) e

  pub kept_whole :
      (xs new : List ℕ) (n : ℕ) → n ≡ min (length s) 256 → new ≡ take n s → xs ≡ replicate 256 0 →
      ◌≡◌ {A = Text} (record { length = length s; octets = new ++ drop n xs }) (text_of s)
  kept_whole xs new n e f g = as_kept (new ++ drop n xs) (rw (f, g, drop-replicate {X = ℕ} n 256 0) (octets_kept n e))
