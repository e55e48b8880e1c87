-- The steps of the loop over the words, at the words of any member of the family.
use Rattle.std.proofs.Common.{◌≡◌, ℕ, ◌+◌, ◌-◌, ◌<◌, ◌≤◌, List, map, length, get_or, arith}
use Rattle.std.proofs.Math.ListN.{set}
use Rattle.std.proofs.lemmas.List.{length-map, map-set}
use Rattle.spec_digest.specs.Family.{Member, next_word, extended}
use Rattle.spec_digest.proofs.RoundLaws.{scheduled_from, extended_turn, extended_end}
use Rattle.digest_words.proofs.NumberLists.{number_read}

module _ {W : Type 0} (number : W → ℕ) (m : Member) (first ws : List W) (t : ℕ) (long : length ws ≡ length first)
    (left : extended m (map number first) ≡ scheduled_from m (length (map number first)) t (map number ws)) where
  numbers_long : length (map number ws) ≡ length (map number first)
  numbers_long = rw (length-map, length-map) long

  pub word_turn :
      (w16 w15 w7 w2 x : W) → 16 ≤ t → t < length ws → w16 ≡ get_or ws (t - 16) w16 → w15 ≡ get_or ws (t - 15) w15 →
      w7 ≡ get_or ws (t - 7) w7 → w2 ≡ get_or ws (t - 2) w2 → number x ≡ next_word m (number w16) (number w15) (number w7) (number w2) →
      extended m (map number first) ≡ scheduled_from m (length (map number first)) (t + 1) (map number (set ws t x))
  word_turn w16 w15 w7 w2 x from below r16 r15 r7 r2 e =
      rw (map-set number ws t x)
      (extended_turn m (map number first) (map number ws) t left numbers_long (number x) from (rw length-map below)
      (rw (
        ← number_read number ws (t - 16) w16 (omega arith) r16,
        ← number_read number ws (t - 15) w15 (omega arith) r15,
        ← number_read number ws (t - 7) w7 (omega arith) r7,
        ← number_read number ws (t - 2) w2 (omega arith) r2,
      )
      e))

  pub words_end : length ws ≤ t → map number ws ≡ extended m (map number first)
  words_end h = extended_end m (map number first) (map number ws) t left numbers_long (rw length-map h)
