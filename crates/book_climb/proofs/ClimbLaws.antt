-- The climb of `nearest`: what is left of the climb gives its answer, and a law for each way out.
use Rattle.std.specs.Prelude.{Option, Some, None}
use Prim.Native.Nat.{ℕ, zero, suc, ◌≤◌, ◌<◌, ◌+◌, ◌-◌, ◌^◌}
use native.Mathlib.Omega.{arith}
use mathlib.Core.Path.{◌≡◌, refl, sym, ap, ◌∙◌}
use mathlib.Core.List.{List}
use lib.ListN.{length, take, drop}
use mir.Syntax.{w64}
use mir.Val.{Fits}
use borrow.Author.Tests.{eq-eqb, ne_eqb}
use Rattle.spec_octets.proofs.Walks.{rest_whole}
use Rattle.spec_refusal.specs.declared.RecordNo.{RecordNo}
use Rattle.read_name.specs.Places.{parent_place}
use Rattle.read_name.proofs.Parents.{further}
use Rattle.book_places.specs.declared.Nearest.{Nearest}
use Rattle.book_places.specs.Sets.{looked_up_at, or_next, nearest_from, nearest_record, one_more, labels_off_from, labels_off_at}

-- a parent begins inside the name
pub parent_inside : (s : List ℕ) (at p : ℕ) → p ≡ parent_place s at → (p ≡ at → ⊥) → p ≤ length s
parent_inside s at p up other = (further s at p up other).1

abbrev pub reached : Option RecordNo → ℕ → Nearest
reached o n = record { found = o; up = n }

both : (o p : Option RecordNo) (m n : ℕ) → o ≡ p → m ≡ n → reached p n ≡ reached o m
both o p m n e f = rw (e, f)

none_off : (n : ℕ) → n ≡ 0 + n
none_off n = omega arith

none_more : (off : ℕ) → off + 0 ≡ off
none_more off = omega arith

one_more_lem : (off above : ℕ) → off + suc above ≡ off + 1 + above
one_more_lem off above = omega arith

module _ (book table links heads onward s : List ℕ) where
  -- from `at` on, with as many steps as there are octets left; each of the `off` labels took an octet or more
  pub record Climbing (at off : ℕ) : Type 0 where
    pub steps : ℕ
    pub enough : length s ≤ steps + at
    pub few : off ≤ at
    pub left : nearest_record book table links heads onward s ≡ nearest_from steps book table links heads onward s at
    pub counted : labels_off_at book table links heads onward s ≡ off + labels_off_from steps book table links heads onward s at

  pub climb_start : Climbing 0 0
  unfolding nearest_record labels_off_at
  climb_start = record { steps = length s; enough = omega arith; few = omega arith; left = refl; counted = none_off _ }

  pub record_told :
      (e : Nearest) → e ≡ reached (nearest_record book table links heads onward s) (labels_off_at book table links heads onward s) →
      e.found ≡ nearest_record book table links heads onward s
  record_told e h = ap (λ (n : Nearest). n.found) h

  module _ (at off p : ℕ) (k : Climbing at off) (up : p ≡ parent_place s at) where
    pub no_parent :
        p ≡ at →
        reached None off ≡ reached (nearest_record book table links heads onward s) (labels_off_at book table links heads onward s)
    no_parent e =
        both (nearest_record book table links heads onward s) None (labels_off_at book table links heads onward s) off
        (k.left ∙ (go k.steps).0) (k.counted ∙ ap (◌+◌ off) (go k.steps).1 ∙ none_more off)
      where
        go :
            (steps : ℕ) →
            (nearest_from steps book table links heads onward s at ≡ None) × (labels_off_from steps book table links heads onward s at ≡ 0)
        go zero = (refl, refl)
        go (suc steps) = rw (eq-eqb (parent_place s at) at (sym up ∙ e)) (refl, refl)

    module _ (other : p ≡ at → ⊥) where
      pub off_fits : length s < 2 ^ 64 → Fits w64 (off + 1)
      off_fits h = record { fits = omega (arith, further s at p up other, k.few) }

      module _ (o : Option RecordNo) (f : o ≡ looked_up_at book table links heads onward (take (length s - at) (drop at s))) where
        abbrev Looked : Type 0
        Looked =
            (steps : ℕ) × (length s ≤ steps + p)
            × (nearest_record book table links heads onward s ≡ or_next o (nearest_from steps book table links heads onward s p))
            × (labels_off_at book table links heads onward s ≡ off + one_more o (labels_off_from steps book table links heads onward s p))

        looked : Looked
        looked = go k.steps k.enough k.left k.counted
          where
            go :
                (n : ℕ) → length s ≤ n + at →
                nearest_record book table links heads onward s ≡ nearest_from n book table links heads onward s at →
                labels_off_at book table links heads onward s ≡ off + labels_off_from n book table links heads onward s at → Looked
            go zero l e c = absurd (omega (arith, further s at p up other))
            go (suc steps) l e c = (
              steps,
              omega (arith, further s at p up other),
              e ∙ rw (ne_eqb (parent_place s at) at (λ e. other (up ∙ e)), up, f, rest_whole s at),
              c ∙ rw (ne_eqb (parent_place s at) at (λ e. other (up ∙ e)), up, f, rest_whole s at),
            )

        pub none_owned : o ≡ None → (off' : ℕ) → off' ≡ off + 1 → Climbing p off'
        none_owned g off' i =
            let (steps, enough, from, count) = looked in
            record {
              steps = steps;
              enough = enough;
              few = omega (arith, further s at p up other, k.few);
              left = from ∙ ap (λ v. or_next v (nearest_from steps book table links heads onward s p)) g;
              counted = count ∙ ap (λ v. off + one_more v (labels_off_from steps book table links heads onward s p)) g
                  ∙ one_more_lem off (labels_off_from steps book table links heads onward s p)
                  ∙ ap (λ n. n + labels_off_from steps book table links heads onward s p) (sym i);
            }

        pub some_owned :
            (r : RecordNo) → o ≡ Some r →
            reached (Some r) off ≡ reached (nearest_record book table links heads onward s) (labels_off_at book table links heads onward s)
        some_owned r g =
            let (steps, enough, from, count) = looked in
            both (nearest_record book table links heads onward s) (Some r) (labels_off_at book table links heads onward s) off
            (from ∙ ap (λ v. or_next v (nearest_from steps book table links heads onward s p)) g)
            (count ∙ ap (λ v. off + one_more v (labels_off_from steps book table links heads onward s p)) g ∙ none_more off)
