-- Letter-digit-hyphen labels (LDH labels): in requested names, issuer domain names and issue values.
use Rattle.std.specs.Prelude.{ℕ, ◌≤◌, Bool, ◌&&◌, ◌||◌, true, List, [], ◌∷◌, ◌++◌, leb, eqb, length, ◌≡◌, ◌≢◌}
use Rattle.spec_limits.specs.Limits.{max_label_octets}
use Rattle.spec_octets.specs.Lists.{all, begins, ends, All}
use Rattle.spec_octets.specs.Octets.{is_letter_or_digit, hyphen}

unfoldable pub is_letter_digit_hyphen : ℕ → Bool
is_letter_digit_hyphen x = is_letter_or_digit x || eqb x hyphen

-- RFC 8659 section 4.2, label: letters, digits and hyphens, with no hyphen first or last. Not empty.
unfoldable pub is_label : List ℕ → Bool
is_label l = all is_letter_digit_hyphen l && begins is_letter_or_digit l && ends is_letter_or_digit l

-- Such a label of at most 63 octets (RFC 1035 section 2.3.4).
unfoldable pub is_host_label : List ℕ → Bool
is_host_label l = leb (length l) max_label_octets && is_label l

-- "1 to 63 letters, digits and hyphens", with no hyphen first or last.
abbrev pub HostLabel : List ℕ → Type 0
HostLabel l =
    (1 ≤ length l) × (length l ≤ max_label_octets) × All (λ x. is_letter_digit_hyphen x ≡ true) l
    × ((s : List ℕ) → l ≢ hyphen ∷ s) × ((s : List ℕ) → l ≢ s ++ (hyphen ∷ []))
