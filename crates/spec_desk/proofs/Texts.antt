-- The words of the desk program's line, and the numbers among them, can be read back.
use Prim.Native.Nat.{ℕ, ◌≤◌}
use Prim.Native.Char.{code}
use native.Mathlib.Omega.{arith}
use mathlib.Core.Path.{◌≡◌, refl, sym, ◌∙◌, ap}
use mathlib.Core.Logic.{◌≢◌}
use mathlib.Core.Bool.{true, false, true≢false}
use mathlib.Core.List.{List, [], ◌∷◌, ◌++◌, map, append_assoc, append_cancel_right, cons≢nil}
use Rattle.spec_octets.specs.Lists.{All, all_nil, all_cons, all, select, begins}
use Rattle.spec_octets.specs.Octets.{text, is_upper, is_lower, is_digit, is_letter_or_digit}
use Rattle.spec_octets.specs.Decimal.{decimal_from}
use Rattle.spec_octets.specs.Pieces.{split, join}
use Rattle.spec_octets.proofs.ListLaws.{told_apart, All-imp, All-head, all_true}
use Rattle.spec_octets.proofs.PieceLaws.{pieces_join}
use Rattle.spec_refusal.specs.declared.Refusal.{Refusal}
use Rattle.spec_refusal.specs.declared.Refusal.TheVariants.{RequestTooLong, BadName, TooManyNames, BadIssuer, BookTooLong, BadRecord, TooManyRecords, AliasConflict, NoRoom, BadLine, LineTooLong, BadData, SessionEnded, BadAccountOrMethod}
use Rattle.spec_refusal.specs.Refusal.{number, place}
use Rattle.spec_refusal.proofs.Table.{number_and_place_tell}
use Rattle.spec_rule.specs.declared.Denial.{Denial}
use Rattle.spec_rule.specs.declared.Judgement.{Judgement}
use Rattle.spec_rule.specs.declared.Judgement.TheVariants.{Permitted, UnknownCritical, NotGranted, TooManyAliases, Refused}
use Rattle.spec_rule.specs.Verdicts.{denial}
use Rattle.spec_rule.specs.Calls.{judge, judgement_code}
use Rattle.spec_octets.specs.WrittenDecimal.{decimal}
use Rattle.spec_desk.specs.Lines.{line_end, numbered, denial_text, answer_text, judgement_line, no_book, desk_line}
use Rattle.spec_desk.specs.Theorems.{numbers_in, TextTells, LinesDiffer, NoBook}
use Rattle.spec_octets.proofs.WrittenDecimals.{says}

abbrev Word : List ℕ → Type 0
Word w = All (λ x. x ≢ code " ") w

letters : (w : List ℕ) → all is_letter_or_digit w ≡ true → Word w
unfolding is_letter_or_digit is_upper is_lower is_digit
letters w e = All-imp (told_apart is_letter_or_digit (code " ") refl) ((all_true is_letter_or_digit w).0 e)

digits : (n : ℕ) → Word (decimal n)
unfolding is_digit
digits n = All-imp (told_apart is_digit (code " ") refl) (says n).digits

-- one word more
infixr 40 ◌∷ᵃ◌
◌∷ᵃ◌ : {w : List ℕ} {ws : List (List ℕ)} → Word w → All Word ws → All Word (w ∷ ws)
h ∷ᵃ hs = all_cons h hs

-- the words of a text that is made by joining them
words : (s : List ℕ) (ws : List (List ℕ)) → s ≡ join (code " ") ws → ws ≢ [] → All Word ws → split (code " ") s ≡ ws
words s ws e n h = (pieces_join (code " ") s ws).1 (e, n, h)

-- the numbers among words
abbrev numbers_of : List (List ℕ) → List ℕ
numbers_of ws = map (decimal_from 0) (select (begins is_digit) ws)

number_first : (n : ℕ) (ws : List (List ℕ)) → numbers_of (decimal n ∷ ws) ≡ n ∷ numbers_of ws
number_first n ws = go (decimal n) (says n).some (says n).digits (says n).back
  where
    go : (w : List ℕ) → w ≢ [] → All (λ x. is_digit x ≡ true) w → decimal_from 0 w ≡ n → numbers_of (w ∷ ws) ≡ n ∷ numbers_of ws
    go [] e h b = absurd (e refl)
    go (x ∷ w) e h b = rw (All-head h, b)

denial_tells :
    (v : ℕ) (f first : List ℕ) → first ≡ text "verdict " ++ f ++ text " name " → Word f →
    ((ws : List (List ℕ)) → numbers_of (f ∷ ws) ≡ v ∷ numbers_of ws) → (d : Denial) →
    numbers_in (denial_text first d) ≡ v ∷ d.name.0 ∷ d.rr.0 ∷ d.up.0 ∷ []
unfolding is_letter_or_digit is_upper is_lower is_digit
denial_tells v f first made clean reads d =
    let k = d.name.0 in
    let r = d.rr.0 in
    let u = d.up.0 in
    let behind = text "name" ∷ decimal k ∷ text "record" ∷ decimal r ∷ text "up" ∷ decimal u ∷ [] in
    let clean-behind =
    letters (text "name") refl ∷ᵃ digits k ∷ᵃ letters (text "record") refl ∷ᵃ digits r ∷ᵃ letters (text "up") refl ∷ᵃ digits u ∷ᵃ all_nil in
    ap numbers_of (words (denial_text first d) (text "verdict" ∷ f ∷ behind) (rw made (simp append_assoc)) cons≢nil (letters (text "verdict") refl ∷ᵃ clean ∷ᵃ clean-behind))
    ∙ reads behind
    ∙ ap (◌∷◌ v) (number_first k (text "record" ∷ decimal r ∷ text "up" ∷ decimal u ∷ [])
    ∙ ap (◌∷◌ k) (number_first r (text "up" ∷ decimal u ∷ []) ∙ ap (◌∷◌ r) (number_first u [])))

refusal_tells : (n p : ℕ) → numbers_in (numbered (text "refused ") n (text " at ") p) ≡ n ∷ p ∷ []
unfolding is_letter_or_digit is_upper is_lower is_digit
refusal_tells n p =
    let ws = text "refused" ∷ decimal n ∷ text "at" ∷ decimal p ∷ [] in
    let clean = letters (text "refused") refl ∷ᵃ digits n ∷ᵃ letters (text "at") refl ∷ᵃ digits p ∷ᵃ all_nil in
    ap numbers_of (words (numbered (text "refused ") n (text " at ") p) ws (simp append_assoc) cons≢nil clean)
    ∙ number_first n (text "at" ∷ decimal p ∷ [])
    ∙ ap (◌∷◌ n) (number_first p [])

pub text_tells : TextTells
unfolding answer_text judgement_code is_letter_or_digit is_upper is_lower is_digit
text_tells Permitted = refl
text_tells (UnknownCritical d) = denial_tells 20 (text "20") (text "verdict 20 name ") refl (letters (text "20") refl) (λ ws. refl) d
text_tells (TooManyAliases d) = denial_tells 22 (text "22") (text "verdict 22 name ") refl (letters (text "22") refl) (λ ws. refl) d
text_tells (NotGranted d) = denial_tells 21 (text "21") (text "verdict 21 name ") refl (letters (text "21") refl) (λ ws. refl) d
text_tells (Refused r) = refusal_tells (number r) (place r)

number_range : (r : Refusal) → (1 ≤ number r) × (number r ≤ 19)
unfolding number
number_range RequestTooLong = (omega arith, omega arith)
number_range (BadName k) = (omega arith, omega arith)
number_range TooManyNames = (omega arith, omega arith)
number_range BadIssuer = (omega arith, omega arith)
number_range BookTooLong = (omega arith, omega arith)
number_range (BadRecord r) = (omega arith, omega arith)
number_range TooManyRecords = (omega arith, omega arith)
number_range (AliasConflict r) = (omega arith, omega arith)
number_range (NoRoom n) = (omega arith, omega arith)
number_range BadLine = (omega arith, omega arith)
number_range LineTooLong = (omega arith, omega arith)
number_range BadData = (omega arith, omega arith)
number_range SessionEnded = (omega arith, omega arith)
number_range BadAccountOrMethod = (omega arith, omega arith)

denial_one : (d e : Denial) → d.name.0 ≡ e.name.0 → d.rr.0 ≡ e.rr.0 → d.up.0 ≡ e.up.0 → d ≡ e
denial_one d e k r u =
    ap (λ x. denial x d.rr.0 d.up.0) k ∙ ap (λ x. denial e.name.0 x d.up.0) r ∙ ap (denial e.name.0 e.rr.0) u

-- a judgement is known by its number and values
told_one : (i j : Judgement) → (judgement_code i).number ≡ (judgement_code j).number → (judgement_code i).values ≡ (judgement_code j).values → i ≡ j
unfolding judgement_code
told_one Permitted Permitted n v = refl
told_one Permitted (UnknownCritical e) n v = absurd (omega arith)
told_one Permitted (NotGranted e) n v = absurd (omega arith)
told_one Permitted (TooManyAliases e) n v = absurd (omega arith)
told_one Permitted (Refused s) n v = absurd (omega (arith, (number_range s).0))
told_one (UnknownCritical d) Permitted n v = absurd (omega arith)
told_one (UnknownCritical d) (UnknownCritical e) n v = ap UnknownCritical (denial_one d e (cc) (cc) (cc))
told_one (UnknownCritical d) (NotGranted e) n v = absurd (omega arith)
told_one (UnknownCritical d) (TooManyAliases e) n v = absurd (omega arith)
told_one (UnknownCritical d) (Refused s) n v = absurd (omega (arith, (number_range s).1))
told_one (NotGranted d) Permitted n v = absurd (omega arith)
told_one (NotGranted d) (UnknownCritical e) n v = absurd (omega arith)
told_one (NotGranted d) (NotGranted e) n v = ap NotGranted (denial_one d e (cc) (cc) (cc))
told_one (NotGranted d) (TooManyAliases e) n v = absurd (omega arith)
told_one (NotGranted d) (Refused s) n v = absurd (omega (arith, (number_range s).1))
told_one (Refused r) Permitted n v = absurd (omega (arith, (number_range r).0))
told_one (Refused r) (UnknownCritical e) n v = absurd (omega (arith, (number_range r).1))
told_one (Refused r) (NotGranted e) n v = absurd (omega (arith, (number_range r).1))
told_one (Refused r) (TooManyAliases e) n v = absurd (omega (arith, (number_range r).1))
told_one (TooManyAliases d) Permitted n v = absurd (omega arith)
told_one (TooManyAliases d) (UnknownCritical e) n v = absurd (omega arith)
told_one (TooManyAliases d) (NotGranted e) n v = absurd (omega arith)
told_one (TooManyAliases d) (TooManyAliases e) n v = ap TooManyAliases (denial_one d e (cc) (cc) (cc))
told_one (TooManyAliases d) (Refused s) n v = absurd (omega (arith, (number_range s).1))
told_one (Refused r) (Refused s) n v = ap Refused (number_and_place_tell r s n (cc))

pub lines_differ : LinesDiffer
lines_differ i j e =
    let same = append_cancel_right (answer_text i) (answer_text j) (line_end ∷ []) e in
    let told = sym (text_tells i) ∙ ap numbers_in same ∙ text_tells j in
    told_one i j (cc) (cc)

-- no answer's text is `no book`: it would tell no number
bookless : (j : Judgement) → judgement_line j ≢ no_book
unfolding is_letter_or_digit is_upper is_lower is_digit
bookless j e =
    let same = append_cancel_right (answer_text j) (text "no book") (line_end ∷ []) e in
    cons≢nil (sym (text_tells j) ∙ ap numbers_in same)

pub no_book_lem : NoBook
unfolding desk_line
no_book_lem true request issuer who book = (λ e. absurd (bookless (judge request issuer who book) e), λ e. absurd (true≢false e))
no_book_lem false request issuer who book = (λ e. refl, λ e. refl)
