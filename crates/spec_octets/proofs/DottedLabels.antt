-- Texts whose pieces all pass a test are joined from pieces that pass; labels contain no dot.
use Prim.Native.Nat.{ℕ}
use Prim.Native.Char.{code}
use mathlib.Core.Path.{◌≡◌, refl}
use mathlib.Core.Logic.{◌↔◌, ◌≢◌}
use mathlib.Core.Bool.{Bool, true}
use mathlib.Core.List.{List, []}
use Rattle.spec_octets.specs.Lists.{all, All}
use Rattle.spec_octets.specs.Octets.{is_letter_or_digit, is_upper, is_lower, is_digit}
use Rattle.spec_octets.specs.Label.{is_letter_digit_hyphen, is_label}
use Rattle.spec_octets.specs.Pieces.{split, join}
use Rattle.spec_octets.proofs.ListLaws.{told_apart, all_true, All-imp}
use Rattle.spec_octets.proofs.PieceLaws.{pieces_join}
use Rattle.spec_octets.proofs.Labels.{label_parts}

-- s is made of passing pieces, with c between each two of them
abbrev pub Joined : ℕ → (List ℕ → Bool) → List ℕ → Type 0
Joined c p s = (ls : List (List ℕ)) × (s ≡ join c ls) × (ls ≢ []) × All (λ l. p l ≡ true) ls

module _ (c : ℕ) (p : List ℕ → Bool) (free : (l : List ℕ) → p l ≡ true → All (λ x. x ≢ c) l) where
  pub pieces_pass : (s : List ℕ) → (all p (split c s) ≡ true) ↔ Joined c p s
  pieces_pass s = (
    λ e. let k = (pieces_join c s (split c s)).0 refl in (split c s, k.0, k.1, (all_true p (split c s)).0 e),
    λ j. rw ((pieces_join c s j.0).1 (j.1, j.2, All-imp free j.3)) ((all_true p j.0).1 j.3),
  )

pub label_dotless : (l : List ℕ) → is_label l ≡ true → All (λ x. x ≢ code ".") l
unfolding is_letter_digit_hyphen is_letter_or_digit is_upper is_lower is_digit
label_dotless l h = All-imp (told_apart is_letter_digit_hyphen (code ".") refl) ((label_parts l).0 h).0
