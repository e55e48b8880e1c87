-- Octets put at the start of a buffer, and then set to lower case there.
use Rattle.std.proofs.Common.{◌≡◌, ℕ, Bool, true, false, cond, List, [], ◌∷◌, ◌++◌, length, take, drop, map, refl, arith, leb}
use Rattle.std.proofs.lemmas.List.{length-map}
use Rattle.std.specs.Char.{to_ascii_lowercase}
use lib.Seq.{take-append_seam, drop-append_seam}
use Rattle.spec_octets.specs.Octets.{lower, is_upper, lowered}
use Rattle.spec_octets.specs.Buffer.{filled, filled_length}

lower_octet : (x : ℕ) → to_ascii_lowercase x ≡ lower x
unfolding lower is_upper
lower_octet x = grind arith

lower_octets : (s : List ℕ) → map to_ascii_lowercase s ≡ lowered s
lower_octets [] = refl
lower_octets (x ∷ s) = rw (lower_octet x, lower_octets s)

pub lowered_there :
    (s d x y : List ℕ) (n : ℕ) → n ≡ filled_length s d → x ≡ filled s d → y ≡ map to_ascii_lowercase (take n x) → y ++ drop n x ≡ filled (lowered s) d
unfolding filled filled_length
lowered_there s d x y n count put low = rw (low, lower_octets (take n x), length-map) (go (leb (length s) (length d)) count put)
  where
    go : (t : Bool) → n ≡ cond t (length s) 0 → x ≡ cond t (s ++ drop (length s) d) d →
        lowered (take n x) ++ drop n x ≡ cond t (lowered s ++ drop (length s) d) d
    go true f g = rw (g, f, take-append_seam s _, drop-append_seam s _)
    go false f g = rw (g, f)
