-- The grammar matches a written line, for the data with its tag in lower case.
use Prim.Native.Nat.{ℕ, ◌/◌, ◌%◌, ◌<◌}
use native.Mathlib.Omega.{arith}
use mathlib.Core.Path.{◌≡◌, refl, ◌∙◌}
use mathlib.Core.Logic.{◌⊎◌, inl, inr}
use mathlib.Core.Bool.{Bool, true, false, cond, ◌||◌}
use mathlib.Core.List.{List, [], ◌∷◌, ◌++◌, map, append_assoc}
use lib.Dec.{eqb}
use lib.ListN.{length-map}
use borrow.Author.Tests.{eqb-true, eqb-false}
use Rattle.spec_octets.specs.Lists.{all_nil, all_cons, flatten}
use Rattle.spec_octets.specs.Octets.{Octets, between, is_digit, is_blank, lower, lowered}
use Rattle.spec_octets.specs.Grammar.{many_none}
use Rattle.spec_octets.proofs.ListLaws.{or_eq_true, or_eq_false, All-map}
use Rattle.spec_octets.proofs.WrittenDecimals.{digit_is, decimal_within_lem, decimal_some, says}
use Rattle.spec_octets.proofs.SmallLetters.{lower_letter}
use Rattle.spec_record.specs.Property.{Property}
use Rattle.spec_line.specs.Written.{space, quote, backslash, escaped, line}
use Rattle.spec_octets.specs.WrittenDecimal.{three_digits, digit, decimal}
use Rattle.spec_line.specs.Read.{WrittenOctet, plain, quoted, numbered, value_of, is_in_quotes}
use Rattle.spec_line.specs.Grammar.{some_blanks, OctetField, TagField, as_written, GoodWrittenOctet, WrittenFor, LineOf, HasLine}
use Rattle.spec_line.specs.Theorems.{small_tag}

pub flags_written : (n : ℕ) → n < 256 → OctetField n (decimal n)
flags_written n h = (decimal_some n, decimal_within_lem 2 n (omega arith), (says n).digits, (says n).back, omega arith)

tag_written : (t : List ℕ) → TagField t → TagField (lowered t)
tag_written t (some, few, letters) = rw (length-map t lower) (some, few, All-map lower (λ x h. lower_letter x ∙ h) letters)

-- s is one good unit inside quotes, and stands for x
abbrev WrittenOctetFor : ℕ → List ℕ → Type 0
WrittenOctetFor x s = (u : WrittenOctet) × (s ≡ as_written u) × GoodWrittenOctet is_in_quotes u × (value_of u ≡ x)

octet_written : (x : ℕ) → x < 256 → WrittenOctetFor x (escaped x)
unfolding escaped is_in_quotes is_digit
octet_written x h = go (eqb x quote || eqb x backslash) refl (between 32 126 x) refl
  where
    special : (eqb x quote ≡ true) ⊎ (eqb x backslash ≡ true) → GoodWrittenOctet is_in_quotes (quoted x)
    special (inl e) = rw (eqb-true x quote e) (omega arith, omega arith, refl)
    special (inr e) = rw (eqb-true x backslash e) (omega arith, omega arith, refl)

    go :
        (t : Bool) → eqb x quote || eqb x backslash ≡ t → (u : Bool) → between 32 126 x ≡ u →
        WrittenOctetFor x (cond t (backslash ∷ x ∷ []) (cond u (x ∷ []) (backslash ∷ three_digits x)))
    go true t u e = (quoted x, refl, special ((or_eq_true (eqb x quote) (eqb x backslash)).0 t), refl)
    go false t true u =
        (plain x, refl, (rw (u, t) refl, eqb-false x backslash ((or_eq_false (eqb x quote) (eqb x backslash)).0 t).1), refl)
    go false t false u = (
      numbered (digit (x / 100)) (digit (x / 10 % 10)) (digit (x % 10)),
      refl,
      (digit_is (x / 100) (omega arith), digit_is (x / 10 % 10) (omega arith), digit_is (x % 10) (omega arith), omega arith),
      omega arith,
    )

pub value_written : {v : List ℕ} → Octets v → WrittenFor is_in_quotes v (flatten (map escaped v))
value_written all_nil = ([], refl, all_nil, refl)
value_written (all_cons {x} h hs) =
    let (u, e, good, is) = octet_written x h in
    let (us, es, goods, are) = value_written hs in
    (u ∷ us, rw (e, es), all_cons good goods, rw (is, are))

pub a_space : some_blanks (space ∷ [])
unfolding is_blank
a_space = (space ∷ [], [], refl, (space, refl, refl), many_none)

pub line_written : (p : Property) → HasLine p → LineOf (small_tag p) (line p)
unfolding line
line_written p (f, t, v) =
    let c = flatten (map escaped p.value) in
    let valueOn = (space ∷ []) ++ (quote ∷ (c ++ (quote ∷ []))) in (
      decimal p.flags,
      (space ∷ []) ++ (lowered p.tag ++ valueOn),
      simp append_assoc,
      flags_written p.flags f,
      (_, _, refl, a_space, (_, _, refl, (refl, tag_written p.tag t), (_, _, refl, a_space, inl (c, refl, value_written v)))),
    )
