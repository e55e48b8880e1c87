-- What the definitions of this crate mean. Each statement is proved under its name in proofs/.
use Rattle.std.specs.Prelude.{ℕ, ◌+◌, ◌*◌, ◌^◌, ◌≤◌, ◌<◌, ◌≡◌, ◌↔◌, ◌≢◌, ◌⊎◌, Bool, true, false, eqb, length, None, Some}
use Prim.Native.Char.{Char, code}
use Prim.Native.String.{String}
use mathlib.Core.List.{List, [], ◌∷◌, ◌++◌, map, Memᴰ}
use Rattle.spec_octets.specs.Lists.{any, all, select, is_empty, begins, ends, flatten, All, Selects, Distinct}
use Rattle.spec_octets.specs.Octets.{Octets, text, is_digit, is_letter_or_digit, is_blank, trim_start, trim_end, is_parameter_octet, lower, lowered, equal_ignoring_case}
use Rattle.spec_octets.specs.TextEdges.{text_edges}
use Rattle.spec_octets.specs.Label.{is_letter_digit_hyphen, is_label, is_host_label, HostLabel}
use Rattle.spec_octets.specs.Pieces.{split, join}
use Rattle.spec_octets.specs.Reader.{Reader, value_from, number, in_octets}
use Rattle.spec_octets.specs.Items.{Items, whole, broken, over, whole_items, item_fault, items, BrokenAt, Beyond}
use Rattle.spec_octets.specs.Decimal.{decimal_from, decimal_octet}
use Rattle.spec_octets.specs.WrittenDecimal.{decimal, three_digits}
use Rattle.spec_octets.specs.Grammar.{label}

-- A text is the ASCII code of each of its characters, in order. The texts that the rules name are spelled out in numbers.
abbrev pub TextOctets : Type 0
TextOctets =
    (text "" ≡ []) × ((c : Char) (s : String) → text (String.◌∷◌ c s) ≡ code c ∷ text s) × (text " \t\n" ≡ 32 ∷ 9 ∷ 10 ∷ [])
    × (text "*" ≡ 42 ∷ []) × (text "issue" ≡ 105 ∷ 115 ∷ 115 ∷ 117 ∷ 101 ∷ [])
    × (text "issuewild" ≡ 105 ∷ 115 ∷ 115 ∷ 117 ∷ 101 ∷ 119 ∷ 105 ∷ 108 ∷ 100 ∷ []) × (text "iodef" ≡ 105 ∷ 111 ∷ 100 ∷ 101 ∷ 102 ∷ [])

-- Only the 26 upper-case letters change, each to its lower-case letter.
abbrev pub LetterCase : Type 0
LetterCase = (x : ℕ) → ((65 ≤ x) × (x ≤ 90) → lower x ≡ x + 32) × ((x < 65) ⊎ (90 < x) → lower x ≡ x)

-- The classes, spelled out.
abbrev pub OctetClasses : Type 0
OctetClasses =
    (x : ℕ) →
    (is_digit x ≡ any (eqb x) (text "0123456789"))
    × (is_letter_or_digit x ≡ any (eqb x) (text "ABCDEFGHIJKLMNOPQRSTUVWXYZabcdefghijklmnopqrstuvwxyz0123456789"))
    × (is_blank x ≡ any (eqb x) (text " \t"))

-- trim_start removes only white space, and no white space is left at the front.
abbrev pub Trimmed : Type 0
Trimmed = (s : List ℕ) → (b : List ℕ) × (s ≡ b ++ trim_start s) × All (λ x. is_blank x ≡ true) b × (begins is_blank (trim_start s) ≡ false)

-- Octets 33 to 126 except 59, the semicolon.
abbrev pub ParameterOctets : Type 0
ParameterOctets = (x : ℕ) → (is_parameter_octet x ≡ true) ↔ ((33 ≤ x) × (x ≤ 126) × (x ≢ 59))

-- trim_end removes only white space, and no white space is left at the end.
abbrev pub TrimmedEnd : Type 0
TrimmedEnd = (s : List ℕ) → (b : List ℕ) × (s ≡ trim_end s ++ b) × All (λ x. is_blank x ≡ true) b × (ends is_blank (trim_end s) ≡ false)

-- Two texts are equal exactly when they are the same list in lower case. So no text equals a proper prefix or suffix of itself.
abbrev pub WholeTexts : Type 0
WholeTexts =
    ((a b : List ℕ) → (equal_ignoring_case a b ≡ true) ↔ (lowered a ≡ lowered b))
    × ((p a : List ℕ) → p ≢ [] → (equal_ignoring_case (p ++ a) a ≡ false) × (equal_ignoring_case a (p ++ a) ≡ false))
    × ((p a : List ℕ) → p ≢ [] → (equal_ignoring_case (a ++ p) a ≡ false) × (equal_ignoring_case a (a ++ p) ≡ false))

-- Each pair of the table is the same text or not, as the table says.
abbrev pub TextEdges : Type 0
TextEdges = map (λ r. equal_ignoring_case r.0 r.1) text_edges ≡ map (λ r. r.2) text_edges

-- A label is what the production of RFC 8659 section 4.2 matches.
abbrev pub LabelIsTheProduction : Type 0
LabelIsTheProduction = (l : List ℕ) → (is_label l ≡ true) ↔ label l

-- Letters, digits and 45, the hyphen.
abbrev pub LabelOctets : Type 0
LabelOctets = (x : ℕ) → (is_letter_digit_hyphen x ≡ true) ↔ ((is_letter_or_digit x ≡ true) ⊎ (x ≡ 45))

abbrev pub HostLabels : Type 0
HostLabels = (l : List ℕ) → (is_host_label l ≡ true) ↔ HostLabel l

-- `select` keeps the elements that pass. `begins` tests the first element and `ends` the last; for an empty list both are false.
abbrev pub ListTests : Type 1
ListTests =
    (A : Type 0) (p : A → Bool) (xs : List A) (x : A) →
    Selects (λ y. p y ≡ true) xs (select p xs)
    × ((is_empty xs ≡ true) ↔ (xs ≡ []))
    × (begins p (x ∷ xs) ≡ p x) × (ends p (xs ++ (x ∷ [])) ≡ p x)
    × (xs ≡ [] → (begins p xs ≡ false) × (ends p xs ≡ false))

-- `any` says that some element passes, `all` that every element does; `flatten` concatenates.
abbrev pub ListFolds : Type 1
ListFolds =
    (A : Type 0) (p : A → Bool) (xs : List A) (xss : List (List A)) →
    ((any p xs ≡ true) ↔ ((y : A) × Memᴰ y xs × (p y ≡ true))) × ((all p xs ≡ true) ↔ All (λ y. p y ≡ true) xs)
    × (flatten {A = A} [] ≡ []) × (flatten (xs ∷ xss) ≡ xs ++ flatten xss)

-- No element occurs twice exactly when none stands at two positions.
abbrev pub DistinctPlaces : Type 1
DistinctPlaces = (A : Type 0) (xs : List A) → Distinct xs ↔ ((p q r : List A) (x : A) → xs ≢ p ++ (x ∷ (q ++ (x ∷ r))))

-- The pieces of a text are the only way to make it by joining texts without the octet c.
abbrev pub PiecesJoin : Type 0
PiecesJoin =
    (c : ℕ) (s : List ℕ) (ps : List (List ℕ)) →
    (split c s ≡ ps) ↔ ((s ≡ join c ps) × (ps ≢ []) × All (λ p. All (λ x. x ≢ c) p) ps)

-- The pieces come in the order of the text.
abbrev pub PiecesExample : Type 0
PiecesExample = split (code ".") (text "ca1.example.net") ≡ text "ca1" ∷ text "example" ∷ text "net" ∷ []

-- A number of k octets is read exactly where it is written in network byte order.
abbrev pub NumbersHighOctetFirst : Type 0
NumbersHighOctetFirst =
    (k : ℕ) (s : List ℕ) → Octets s → (n : ℕ) (rest : List ℕ) →
    (number k s ≡ Some (n, rest)) ↔ ((s ≡ in_octets k n ++ rest) × (n < 256 ^ k))

-- A number that fits in k octets is written in k octets, and these have its value.
abbrev pub NumbersWritten : Type 0
NumbersWritten =
    (k n : ℕ) → n < 256 ^ k → (length (in_octets k n) ≡ k) × Octets (in_octets k n) × (value_from 0 (in_octets k n) ≡ n)

-- One more octet multiplies the value by 256 and adds the octet. One more digit multiplies it by 10 and adds the digit.
abbrev pub LastPlace : Type 0
LastPlace =
    (value_from 0 [] ≡ 0) × ((s : List ℕ) (x : ℕ) → value_from 0 (s ++ (x ∷ [])) ≡ value_from 0 s * 256 + x)
    × (decimal_from 0 [] ≡ 0) × ((s : List ℕ) (d : ℕ) → decimal_from 0 (s ++ ((48 + d) ∷ [])) ≡ decimal_from 0 s * 10 + d)

-- An octet in decimal: 1 to 3 digits, at most 255.
abbrev pub DecimalOctets : Type 0
DecimalOctets =
    (s : List ℕ) (n : ℕ) →
    (decimal_octet s ≡ Some n)
    ↔ ((1 ≤ length s) × (length s ≤ 3) × All (λ x. is_digit x ≡ true) s × (decimal_from 0 s ≡ n) × (n ≤ 255))

-- `decimal n` is digits with the value n. It has no leading zero, except that 0 itself is written 0.
abbrev pub Decimals : Type 0
Decimals =
    (n : ℕ) →
    (decimal n ≢ []) × All (λ x. is_digit x ≡ true) (decimal n) × (decimal_from 0 (decimal n) ≡ n)
    × ((s : List ℕ) → decimal n ≡ code "0" ∷ s → s ≡ [])

-- A number below 1000 is written in exactly three digits, with leading zeros.
abbrev pub ThreeDigits : Type 0
ThreeDigits =
    (n : ℕ) → n < 1000 → (length (three_digits n) ≡ 3) × All (λ x. is_digit x ≡ true) (three_digits n) × (decimal_from 0 (three_digits n) ≡ n)

-- `whole_items` and `item_fault` for each of the three results: the items, a malformed item with its number, too many items.
abbrev pub ItemFaults : Type 1
ItemFaults =
    (A R : Type 0) (bad : ℕ → R) (many : R) (i : Items A) →
    ((xs : List A) → i ≡ whole xs → (whole_items i ≡ xs) × (item_fault bad many i ≡ None))
    × ((k : ℕ) → i ≡ broken k → (whole_items i ≡ []) × (item_fault bad many i ≡ Some (bad k)))
    × (i ≡ over → (whole_items i ≡ []) × (item_fault bad many i ≡ Some many))

module _ {A : Type 0} (read : Reader A) (wire : A → List ℕ) (Good : A → Type 0) where
  -- The reader returns a exactly where the octets begin with the octets of a, and a is valid.
  abbrev pub Reads : Type 0
  Reads =
      (s : List ℕ) → Octets s → (a : A) (rest : List ℕ) →
      (read s ≡ Some (a, rest)) ↔ ((s ≡ wire a ++ rest) × Good a)

  abbrev pub ItemsAreRead : Type 0
  ItemsAreRead =
      (room : ℕ) (s : List ℕ) → Octets s →
      ((xs : List A) → (items read room s ≡ whole xs) ↔ ((s ≡ flatten (map wire xs)) × All Good xs × (length xs ≤ room)))
      × ((k : ℕ) → (items read room s ≡ broken k) ↔ ((k < room) × BrokenAt wire Good s k))
      × ((items read room s ≡ over) ↔ Beyond wire Good room s)

-- For any kind of item: when a sequence is read completely, when item k of it is malformed, and when it has too many items.
abbrev pub ItemsEndToEnd : Type 1
ItemsEndToEnd =
    (A : Type 0) (read : Reader A) (wire : A → List ℕ) (Good : A → Type 0) →
    Reads read wire Good → ((a : A) → wire a ≢ []) → ItemsAreRead read wire Good
