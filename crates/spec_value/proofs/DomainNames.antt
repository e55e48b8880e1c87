-- An issuer domain name, tested label by label, is what the production matches. It contains no white space and no semicolon.
use Prim.Native.Nat.{ℕ}
use Prim.Native.Char.{code}
use mathlib.Core.Path.{◌≡◌, refl, ap, sym}
use mathlib.Core.Logic.{◌↔◌, ◌≢◌, inl, inr}
use mathlib.Core.Bool.{Bool, true, false, ◌||◌}
use mathlib.Core.List.{List, [], ◌∷◌, ◌++◌, cons≢nil, append-nil}
use lib.Dec.{eqb}
use Rattle.spec_octets.specs.Lists.{All, all_nil, all_cons}
use Rattle.spec_octets.specs.Octets.{is_letter_or_digit, is_upper, is_lower, is_digit}
use Rattle.spec_octets.specs.Label.{is_letter_digit_hyphen, is_label}
use Rattle.spec_octets.specs.Pieces.{join}
use Rattle.spec_octets.specs.Grammar.{label, lit, ◌⊕◌, many, many_none, many_more}
use Rattle.spec_octets.proofs.ListLaws.{told_apart, All-join, or_eq_true, All-head, All-tail, All-imp}
use Rattle.spec_octets.proofs.Labels.{label_parts, label_is_the_production}
use Rattle.spec_octets.proofs.DottedLabels.{Joined, pieces_pass, label_dotless}
use Rattle.spec_octets.proofs.Runs.{Of, not_blank, Blankless}
use Rattle.spec_value.specs.IssueValues.{is_domain_name}
use Rattle.spec_value.specs.Productions.{issuer_domain_name}
use Rattle.spec_value.proofs.Classes.{Free}
use Rattle.spec_value.proofs.Cuts.{join_more}

matched : (l : List ℕ) (ls : List (List ℕ)) → All (λ l. is_label l ≡ true) (l ∷ ls) → issuer_domain_name (join (code ".") (l ∷ ls))
matched l [] h = (l, [], sym (append-nil l), (label_is_the_production l).0 (All-head h), many_none)
matched l (k ∷ ls) h =
    let (first, rest, e, good, more) = matched k ls (All-tail h) in (
      l,
      code "." ∷ join (code ".") (k ∷ ls),
      refl,
      (label_is_the_production l).0 (All-head h),
      many_more (code "." ∷ first) rest (ap (λ (s : List ℕ). code "." ∷ s) e) (code "." ∷ [], first, refl, refl, good) more,
    )

joined : {s : List ℕ} → many (lit (code ".") ⊕ label) s → (l : List ℕ) → is_label l ≡ true → Joined (code ".") is_label (l ++ s)
joined many_none l h = (l ∷ [], append-nil l, cons≢nil, all_cons h all_nil)
joined (many_more a b e d more) l h =
    let j = joined more d.1 ((label_is_the_production d.1).1 d.4) in
    (l ∷ j.0, rw (e, d.2, d.3, j.1) (sym (join_more (code ".") l j.0 j.2)), cons≢nil, all_cons h j.3)

by_labels : (n : List ℕ) → (is_domain_name n ≡ true) ↔ Joined (code ".") is_label n
unfolding is_domain_name
by_labels n = pieces_pass (code ".") is_label label_dotless n

pub domain_name_matches : (n : List ℕ) → (is_domain_name n ≡ true) ↔ issuer_domain_name n
domain_name_matches n = (
  λ e. let j = (by_labels n).0 e in rw j.1 (go j.0 j.2 j.3),
  λ m. (by_labels n).1 (rw m.2 (joined m.4 m.0 ((label_is_the_production m.0).1 m.3))),
)
  where
    go : (ls : List (List ℕ)) → ls ≢ [] → All (λ l. is_label l ≡ true) ls → issuer_domain_name (join (code ".") ls)
    go [] ne h = absurd (ne refl)
    go (l ∷ ls) ne h = matched l ls h

pub domain_name_not_empty : is_domain_name [] ≡ false
unfolding is_domain_name is_label
domain_name_not_empty = refl

-- the octets of a name
is_name_octet : ℕ → Bool
is_name_octet x = is_letter_digit_hyphen x || eqb x (code ".")

name_octets : (n : List ℕ) → is_domain_name n ≡ true → Of is_name_octet n
unfolding is_name_octet
name_octets n h = let j = (by_labels n).0 h in rw j.1 (go j.0 j.3)
  where
    of_label : (l : List ℕ) → is_label l ≡ true → Of is_name_octet l
    of_label l h = All-imp (λ x e. (or_eq_true (is_letter_digit_hyphen x) (eqb x (code "."))).1 (inl e)) ((label_parts l).0 h).0

    go : (ls : List (List ℕ)) → All (λ l. is_label l ≡ true) ls → Of is_name_octet (join (code ".") ls)
    go [] h = all_nil
    go (l ∷ []) h = of_label l (All-head h)
    go (l ∷ k ∷ ls) h =
        let dot = (or_eq_true (is_letter_digit_hyphen (code ".")) true).1 (inr refl) in
        All-join (of_label l (All-head h)) (all_cons dot (go (k ∷ ls) (All-tail h)))

pub domain_name_blankless : {n : List ℕ} → is_domain_name n ≡ true → Blankless n
unfolding is_name_octet is_letter_digit_hyphen is_letter_or_digit is_upper is_lower is_digit
domain_name_blankless {n} h = All-imp (not_blank is_name_octet refl refl) (name_octets n h)

pub domain_name_free : {n : List ℕ} → is_domain_name n ≡ true → Free (code ";") n
unfolding is_name_octet is_letter_digit_hyphen is_letter_or_digit is_upper is_lower is_digit
domain_name_free {n} h = All-imp (told_apart is_name_octet (code ";") refl) (name_octets n h)
