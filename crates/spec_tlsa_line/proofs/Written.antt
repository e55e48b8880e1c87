-- How a TLSA line is written; the grammar matches it, and reading gives the data back. It is never over the limit of lines.
use Prim.Native.Nat.{ℕ, ◌*◌, ◌/◌, ◌%◌, ◌<◌}
use native.Mathlib.Omega.{arith}
use mathlib.Core.Path.{◌≡◌, refl}
use mathlib.Core.Logic.{◌≢◌, inl, inr}
use mathlib.Core.Bool.{Bool, true, false}
use mathlib.Core.List.{List, [], ◌∷◌, ◌++◌, map, append_assoc}
use lib.Dec.{ltb}
use lib.ListN.{length, length-append}
use borrow.Author.Tests.{ltb-true, ltb-false}
use Rattle.spec_limits.specs.Limits.{max_data_octets, max_line_octets}
use Rattle.spec_octets.specs.Lists.{begins, ends, flatten, all_nil, all_cons, Selects, selects_nil, selects_take}
use Rattle.spec_octets.specs.Octets.{Octets, is_digit, is_upper, is_blank}
use Rattle.spec_octets.specs.WrittenDecimal.{decimal}
use Rattle.spec_octets.proofs.ListLaws.{All-head}
use Rattle.spec_octets.proofs.Runs.{Blankless, not_blank}
use Rattle.spec_line.proofs.LineLength.{flags_short}
use Rattle.spec_line.proofs.WrittenParts.{flags_written, a_space}
use Rattle.spec_line.specs.Written.{space}
use Rattle.spec_tlsa.specs.Association.{Association}
use Rattle.spec_tlsa_line.specs.Hex.{hex_digit, hex_octet, hex_text, is_hex_digit, hex_value}
use Rattle.spec_tlsa_line.specs.Lines.{tlsa_line}
use Rattle.spec_tlsa_line.specs.Grammar.{HexDigit, PairsOf, pairs_end, pairs_more, HexField, TlsaLineOf, HasTlsaLine}
use Rattle.spec_tlsa_line.specs.Pinned.{TlsaAsWritten, DigitsPrinted}
use Rattle.spec_tlsa_line.specs.Theorems.{TlsaThereAndBack, TlsaBackAndThere, TlsaLineFits}
use Rattle.spec_tlsa_line.proofs.HexLaws.{hex_digits}
use Rattle.spec_tlsa_line.proofs.LineLaws.{tlsa_line_is_the_grammar}

pub tlsa_as_written : TlsaAsWritten
unfolding tlsa_line hex_text
tlsa_as_written a = simp append_assoc

pub digits_printed : DigitsPrinted
unfolding hex_text hex_value is_digit is_upper
digits_printed = (refl, refl, refl, refl)

digit_written : (n : ℕ) → n < 16 → HexDigit n (hex_digit n)
digit_written n small = go (ltb n 10) refl
  where
    go : (t : Bool) → ltb n 10 ≡ t → HexDigit n (hex_digit n)
    go true e = let low = ltb-true n 10 e in rw e (inl (omega arith, refl))
    go false e = let high = ltb-false n 10 e in rw e (inr (omega arith, omega arith, inl (omega arith)))

pairs_written : {v : List ℕ} → Octets v → PairsOf v (flatten (map hex_octet v))
pairs_written all_nil = pairs_end
pairs_written (all_cons {x} small hs) =
    pairs_more {x = x} (x / 16) (x % 16) (digit_written (x / 16) (omega arith)) (digit_written (x % 16) (omega arith)) (omega arith) (pairs_written hs)

-- digits are no white space
digit_blankless : (n x : ℕ) → HexDigit n x → is_blank x ≡ false
unfolding is_hex_digit is_digit
digit_blankless n x h = not_blank is_hex_digit refl refl x ((hex_digits x n).1 h).0

pairs_blankless : {v ds : List ℕ} → PairsOf v ds → Blankless ds
pairs_blankless pairs_end = all_nil
pairs_blankless (pairs_more {a} {b} h l p q is more) = all_cons (digit_blankless h a p) (all_cons (digit_blankless l b q) (pairs_blankless more))

begins_blankless : (s : List ℕ) → Blankless s → begins is_blank s ≡ false
begins_blankless [] clean = refl
begins_blankless (x ∷ s) clean = All-head clean

ends_blankless : (s : List ℕ) → Blankless s → ends is_blank s ≡ false
ends_blankless [] clean = refl
ends_blankless (x ∷ []) clean = All-head clean
ends_blankless (x ∷ y ∷ s) (all_cons h clean) = ends_blankless (y ∷ s) clean

all_selected : {s : List ℕ} → Blankless s → Selects (λ x. is_blank x ≡ false) s s
all_selected all_nil = selects_nil
all_selected (all_cons h hs) = selects_take h (all_selected hs)

hex_written : (v : List ℕ) → Octets v → v ≢ [] → HexField v (hex_text v)
unfolding hex_text
hex_written v o full =
    let s = flatten (map hex_octet v) in
    let pairs = pairs_written o in
    let clean = pairs_blankless pairs in
    (full, begins_blankless s clean, ends_blankless s clean, (s, all_selected clean, pairs))

pub tlsa_line_written : (a : Association) → HasTlsaLine a → TlsaLineOf a (tlsa_line a)
unfolding tlsa_line
tlsa_line_written a (u, s, m, o, full) =
    let hexOn = (space ∷ []) ++ hex_text a.octets in
    let matchingOn = (space ∷ []) ++ (decimal a.matching ++ hexOn) in (
      decimal a.usage,
      (space ∷ []) ++ (decimal a.selector ++ matchingOn),
      simp append_assoc,
      flags_written a.usage u,
      (_, _, refl, a_space, (_, _, refl, flags_written a.selector s, (_, _, refl, a_space, (_, _, refl, flags_written a.matching m, (_, _, refl, a_space, hex_written a.octets o full))))),
    )

pub tlsa_there_and_back : TlsaThereAndBack
tlsa_there_and_back a h = (tlsa_line_is_the_grammar (tlsa_line a) a).1 (tlsa_line_written a h)

digit_small : (n x : ℕ) → HexDigit n x → n < 16
digit_small n x (inl h) = omega arith
digit_small n x (inr h) = omega arith

pairs_octets : {v ds : List ℕ} → PairsOf v ds → Octets v
pairs_octets pairs_end = all_nil
pairs_octets (pairs_more {x} {a} {b} h l p q is more) = all_cons (below (digit_small h a p) (digit_small l b q)) (pairs_octets more)
  where
    below : h < 16 → l < 16 → x < 256
    below m n = omega arith

has_tlsa_line : (s : List ℕ) (a : Association) → TlsaLineOf a s → HasTlsaLine a
has_tlsa_line s a
    (f₁, r₁, e₁, usage, (b₁, s₁, e₂, blanks₁, (f₂, r₂, e₃, selector, (b₂, s₂, e₄, blanks₂, (f₃, r₃, e₅, matching, (b₃, s₃, e₆, blanks₃, (full, first, last, (ds, selects, pairs)))))))) =
    (omega (arith, usage.4), omega (arith, selector.4), omega (arith, matching.4), pairs_octets pairs, full)

pub tlsa_back_and_there : TlsaBackAndThere
tlsa_back_and_there s a h = tlsa_there_and_back a (has_tlsa_line s a ((tlsa_line_is_the_grammar s a).0 h))

-- two digits for each octet
pub hex_length : (v : List ℕ) → length (flatten (map hex_octet v)) ≡ 2 * length v
hex_length [] = refl
hex_length (x ∷ v) = omega (arith, hex_length v)

pub tlsa_line_fits : TlsaLineFits
unfolding tlsa_line hex_text max_data_octets max_line_octets
tlsa_line_fits a (u, s, m, o, full) fits =
    simp length-append (omega (arith, flags_short a.usage u, flags_short a.selector s, flags_short a.matching m, hex_length a.octets))
