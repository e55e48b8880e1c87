-- A list of words as the list of their numbers.
use Rattle.std.proofs.Common.{◌≡◌, ℕ, ◌<◌, List, map, length, get_or, sym, ap, ◌∙◌}
use Rattle.std.proofs.lemmas.List.{get_or-map}

module _ {W : Type 0} (number : W → ℕ) where
  -- the number of a word that was read
  pub number_read : (ws : List W) (i : ℕ) (x : W) → i < length ws → x ≡ get_or ws i x → number x ≡ get_or (map number ws) i 0
  number_read ws i x within read = ap number read ∙ sym (get_or-map number ws i x 0 within)
