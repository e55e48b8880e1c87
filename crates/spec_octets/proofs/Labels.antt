-- Three ways to say what a label is agree: the test, the requirements' words and the production of RFC 8659 section 4.2.
use Prim.Native.Nat.{ℕ, ◌≤◌}
use native.Mathlib.Omega.{arith}
use mathlib.Core.Path.{◌≡◌, refl, ap, sym, ◌∙◌}
use mathlib.Core.Logic.{◌↔◌, ◌≢◌, ◌⊎◌, inl, inr, ⊎_elim, ⊎_map}
use mathlib.Core.Bool.{true, false, ◌&&◌, true≢false, false≢true, and-eq-true_iff}
use mathlib.Core.List.{List, [], ◌∷◌, ◌++◌, cons≢nil, append_assoc}
use lib.Dec.{leb, eqb}
use lib.ListN.{length}
use borrow.Author.Tests.{eqb-true, eq-eqb, leb-true, le-leb}
use Rattle.spec_limits.specs.Limits.{max_label_octets}
use Rattle.spec_octets.specs.Lists.{all, begins, ends, All, all_nil, all_cons}
use Rattle.spec_octets.specs.Octets.{is_letter_or_digit, is_upper, is_lower, is_digit, hyphen}
use Rattle.spec_octets.specs.Label.{is_letter_digit_hyphen, is_label, is_host_label}
use Rattle.spec_octets.specs.Grammar.{Production, one, lit, ◌⊕◌, many, many_none, many_more, label}
use Rattle.spec_octets.specs.Theorems.{LabelIsTheProduction, LabelOctets, HostLabels}
use Rattle.spec_octets.specs.Pinned.{HyphenOctet}
use Rattle.spec_octets.proofs.ListLaws.{or_eq_true, all_true, All-head, All-tail, All-append, ends_append}

-- made of letters, digits and hyphens
abbrev pub Plain : List ℕ → Type 0
Plain l = All (λ x. is_letter_digit_hyphen x ≡ true) l

-- and neither first nor last a hyphen
abbrev pub Parts : List ℕ → Type 0
Parts l = Plain l × (begins is_letter_or_digit l ≡ true) × (ends is_letter_or_digit l ≡ true)

pub label_parts : (l : List ℕ) → (is_label l ≡ true) ↔ Parts l
unfolding is_label
label_parts l = (
  λ e. let k = (and-eq-true_iff (all is_letter_digit_hyphen l && begins is_letter_or_digit l) (ends is_letter_or_digit l)).0 e in
      let j = (and-eq-true_iff (all is_letter_digit_hyphen l) (begins is_letter_or_digit l)).0 k.0 in
      ((all_true is_letter_digit_hyphen l).0 j.0, j.1, k.1),
  λ k. rw ((all_true is_letter_digit_hyphen l).1 k.0, k.1) k.2,
)

plain_octet : (x : ℕ) → (is_letter_digit_hyphen x ≡ true) ↔ ((is_letter_or_digit x ≡ true) ⊎ (x ≡ hyphen))
unfolding is_letter_digit_hyphen
plain_octet x = (
  λ e. ⊎_map (λ h. h) (eqb-true x hyphen) ((or_eq_true (is_letter_or_digit x) (eqb x hyphen)).0 e),
  λ o. (or_eq_true (is_letter_or_digit x) (eqb x hyphen)).1 (⊎_map (λ h. h) (eq-eqb x hyphen) o),
)

pub hyphen_octet : HyphenOctet
hyphen_octet = refl

pub label_octets_lem : LabelOctets
label_octets_lem = plain_octet

pub hyphen_is_neither : is_letter_or_digit hyphen ≡ false
unfolding is_letter_or_digit is_upper is_lower is_digit
hyphen_is_neither = refl

-- Host labels.

letter_or_digit : (x : ℕ) → is_letter_digit_hyphen x ≡ true → x ≢ hyphen → is_letter_or_digit x ≡ true
letter_or_digit x h ne = ⊎_elim (λ e. e) (λ e. absurd (ne e)) ((plain_octet x).0 h)

pub begins_without : (l : List ℕ) → 1 ≤ length l → Plain l → ((s : List ℕ) → l ≢ hyphen ∷ s) → begins is_letter_or_digit l ≡ true
begins_without [] some h ne = absurd (omega arith)
begins_without (x ∷ l) some h ne = letter_or_digit x (All-head h) (λ e. ne l (cc))

pub ends_without : (l : List ℕ) → 1 ≤ length l → Plain l → ((s : List ℕ) → l ≢ s ++ (hyphen ∷ [])) → ends is_letter_or_digit l ≡ true
ends_without [] some h ne = absurd (omega arith)
ends_without (x ∷ []) some h ne = letter_or_digit x (All-head h) (λ e. ne [] (cc))
ends_without (x ∷ y ∷ l) some h ne = ends_without (y ∷ l) (omega arith) (All-tail h) (λ s e. ne (x ∷ s) (cc))

begins_long : (l : List ℕ) → begins is_letter_or_digit l ≡ true → 1 ≤ length l
begins_long [] e = absurd (false≢true e)
begins_long (x ∷ l) e = omega arith

pub host_labels : HostLabels
unfolding is_host_label
host_labels l = (
  λ e. let k = (and-eq-true_iff (leb (length l) max_label_octets) (is_label l)).0 e in
      let j = (label_parts l).0 k.1 in (
        begins_long l j.1,
        leb-true (length l) max_label_octets k.0,
        j.0,
        λ s h. true≢false (sym (rw h at j.1) ∙ hyphen_is_neither),
        λ s h. true≢false (sym (rw h at j.2) ∙ ends_append is_letter_or_digit s hyphen [] ∙ hyphen_is_neither),
      ),
  λ k. rw (le-leb (length l) max_label_octets k.1)
      ((label_parts l).1 (k.2, begins_without l k.0 k.2 k.3, ends_without l k.0 k.2 k.4)),
)

-- The production. After its first letter or digit a label goes on with groups of hyphens and a letter or digit.

abbrev group : Production
group = many (lit hyphen) ⊕ one is_letter_or_digit

letter_plain : (x : ℕ) → is_letter_or_digit x ≡ true → is_letter_digit_hyphen x ≡ true
letter_plain x h = (plain_octet x).1 (inl h)

hyphens_plain : {s : List ℕ} → many (lit hyphen) s → Plain s
hyphens_plain many_none = all_nil
hyphens_plain (many_more a b e h more) = rw (e, h) (all_cons ((plain_octet hyphen).1 (inr refl)) (hyphens_plain more))

-- a group and what follows: hyphens, a letter or digit, the rest
spelled : {s : List ℕ} (a b : List ℕ) → s ≡ a ++ b → group a →
    (h : List ℕ) × (z : ℕ) × (s ≡ h ++ (z ∷ b)) × many (lit hyphen) h × (is_letter_or_digit z ≡ true)
spelled a b e g = (g.0, g.4.0, rw (e, g.2, append_assoc, g.4.1), g.3, g.4.2)

groups_plain : {s : List ℕ} → many group s → Plain s
groups_plain many_none = all_nil
groups_plain (many_more a b e g more) =
    let k = spelled a b e g in
    rw k.2 ((All-append k.0 (k.1 ∷ b)).1 (hyphens_plain k.3, all_cons (letter_plain k.1 k.4) (groups_plain more)))

-- they end in a letter or digit, as what stands before them does
groups_end : {s : List ℕ} → many group s → (x : ℕ) → is_letter_or_digit x ≡ true → ends is_letter_or_digit (x ∷ s) ≡ true
groups_end many_none x h = h
groups_end (many_more a b e g more) x h =
    let k = spelled a b e g in
    rw (k.2, ends_append is_letter_or_digit (x ∷ k.0) k.1 b) (groups_end more k.1 k.4)

hyphen_before : {s : List ℕ} → many group s → s ≢ [] → many group (hyphen ∷ s)
hyphen_before many_none ne = absurd (ne refl)
hyphen_before {s} (many_more a b e g more) ne =
    let hyphens : many (lit hyphen) (hyphen ∷ g.0) = many_more (hyphen ∷ []) g.0 refl refl g.3 in
    let same : a ≡ g.0 ++ g.1 = g.2 in
    many_more {s = hyphen ∷ s} (hyphen ∷ a) b (cc) (hyphen ∷ g.0, g.1, cc, hyphens, g.4) more

-- the other way: after a letter or digit, what is plain and ends in a letter or digit is groups
groups : (x : ℕ) (s : List ℕ) → is_letter_or_digit x ≡ true → Plain s → ends is_letter_or_digit (x ∷ s) ≡ true → many group s
groups x [] h all e = many_none
groups x (y ∷ s) h all e = go s ((plain_octet y).0 (All-head all)) (All-tail all) e (λ z. groups z s)
  where
    go : (s : List ℕ) → (is_letter_or_digit y ≡ true) ⊎ (y ≡ hyphen) → Plain s → ends is_letter_or_digit (y ∷ s) ≡ true →
        ((z : ℕ) → is_letter_or_digit z ≡ true → Plain s → ends is_letter_or_digit (z ∷ s) ≡ true → many group s) → many group (y ∷ s)
    go s (inl l) all e rest = many_more (y ∷ []) s refl ([], y ∷ [], refl, many_none, (y, refl, l)) (rest y l all e)
    go [] (inr l) all e rest = absurd (true≢false (sym e ∙ ap is_letter_or_digit l ∙ hyphen_is_neither))
    go (w ∷ s) (inr l) all e rest = rw l (hyphen_before (rest x h all e) cons≢nil)

pub label_is_the_production : LabelIsTheProduction
label_is_the_production l = (
  λ e. made l ((label_parts l).0 e),
  λ m. (label_parts l).1 (rw (m.2, m.3.1) (parts m.3.0 m.3.2 m.4)),
)
  where
    made : (l : List ℕ) → Parts l → label l
    made [] k = absurd (false≢true k.1)
    made (x ∷ s) k = (x ∷ [], s, refl, (x, refl, k.1), groups x s k.1 (All-tail k.0) k.2)

    parts : (x : ℕ) → is_letter_or_digit x ≡ true → {s : List ℕ} → many group s → Parts (x ∷ s)
    parts x h m = (all_cons (letter_plain x h) (groups_plain m), h, groups_end m x h)
