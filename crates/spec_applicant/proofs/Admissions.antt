-- The limits of a value, found by searching its parameters, are what the statement says of them without a search.
use Prim.Native.Nat.{ℕ}
use Prim.Native.Char.{code}
use mathlib.Core.Path.{◌≡◌, refl, sym, ap, ◌∙◌}
use mathlib.Core.Logic.{◌↔◌, ◌≢◌, inl, inr, ⊎_elim}
use mathlib.Core.Bool.{Bool, true, false, not, true≢false, false≢true, and-eq-true_iff}
use mathlib.Core.List.Memᴰ
use mathlib.Core.List.{List, [], ◌∷◌, ◌++◌, cons≢nil, cons-eq-cons, Memᴰ}
use borrow.Author.Tests.{not-true}
use Rattle.spec_octets.specs.Lists.{any, cons_if, select, is_empty, All, all_nil, all_cons, Selects, selects_nil, selects_take, selects_pass}
use Rattle.spec_octets.specs.Octets.{text, is_upper, lower, lowered, same}
use Rattle.spec_octets.specs.Pieces.{split, join}
use Rattle.spec_octets.proofs.ListLaws.{true_or_false, not_passed, any_true, any_false, All-head, All-tail, All-rest, All-imp}
use Rattle.spec_octets.proofs.PieceLaws.{pieces_join}
use Rattle.spec_octets.proofs.Texts.{same_equal, same_text}
use Rattle.spec_value.specs.Parameters.{Parameter}
use Rattle.spec_applicant.specs.Applicant.{Applicant}
use Rattle.spec_applicant.specs.Admission.{is_tagged, values_of, at_most_one, names_method, admits}
use Rattle.spec_applicant.specs.Meaning.{Tagged, AtMostOne, Limited, Among}
use Rattle.spec_applicant.specs.Theorems.{AdmitsExactly, OthersIgnored}

-- Two elements of a kind: what a list with one more element in front says of them.

module _ {P : Parameter → Type 0} where
  lone_tail : {p : Parameter} {ps : List Parameter} → AtMostOne P (p ∷ ps) → AtMostOne P ps
  lone_tail {p} h a b c x y e = h (p ∷ a) b c x y (ap (◌∷◌ p) e)

  -- no other behind the first
  lone_first : {p : Parameter} {ps : List Parameter} → AtMostOne P (p ∷ ps) → P p → All (λ q. P q → ⊥) ps
  lone_first {p} {ps} h here = others ps (λ b c y e. h [] b c p y (ap (◌∷◌ p) e) here)
    where
      others : (qs : List Parameter) → ((b c : List Parameter) (y : Parameter) → qs ≡ b ++ (y ∷ c) → P y → ⊥) → All (λ q. P q → ⊥) qs
      others [] n = all_nil
      others (q ∷ qs) n = all_cons (n [] qs q refl) (others qs (λ b c y e. n (q ∷ b) c y (ap (◌∷◌ q) e)))

  lone_cons : {p : Parameter} {ps : List Parameter} → (P p → All (λ q. P q → ⊥) ps) → AtMostOne P ps → AtMostOne P (p ∷ ps)
  lone_cons n h [] b c x y e here there =
      let (first, rest) = cons-eq-cons.0 e in
      All-head (All-rest b (y ∷ c) (rw rest at (n (rw (← first) at here)))) there
  lone_cons n h (z ∷ a) b c x y e here there = h a b c x y (cons-eq-cons.0 e).1 here there

  none_lone : {ps : List Parameter} → All (λ q. P q → ⊥) ps → AtMostOne P ps
  none_lone n a b c x y e here there = All-head (All-rest a (x ∷ (b ++ (y ∷ c))) (rw e at n)) here

-- The values of a tag.

module _ (t : List ℕ) (small : lowered t ≡ t) where
  tagged : (p : Parameter) → (is_tagged t p ≡ true) ↔ Tagged t p
  tagged p = (λ e. (same_text p.tag t).0 e ∙ small, λ h. (same_text p.tag t).1 (h ∙ sym small))

  untagged : (p : Parameter) → is_tagged t p ≡ false → Tagged t p → ⊥
  untagged p e h = true≢false (sym ((tagged p).1 h) ∙ e)

  no_values : (ps : List Parameter) → (values_of t ps ≡ []) ↔ All (λ p. Tagged t p → ⊥) ps
  no_values [] = (λ e. all_nil, λ h. refl)
  no_values (p ∷ ps) = ⊎_elim
      (λ e. rw e (λ h. absurd (cons≢nil h), λ n. absurd (All-head n ((tagged p).0 e))))
      (λ e. rw e (λ h. all_cons (untagged p e) ((no_values ps).0 h), λ n. (no_values ps).1 (All-tail n)))
      (true_or_false (is_tagged t p))

  module _ (test : List ℕ → Bool) (Good : List ℕ → Type 0) (decides : (v : List ℕ) → (test v ≡ true) ↔ Good v) where
    alone : (v : List ℕ) (vs : List (List ℕ)) → (at_most_one test (v ∷ vs) ≡ true) ↔ ((test v ≡ true) × (vs ≡ []))
    alone v [] = (λ e. (e, refl), λ k. k.0)
    alone v (w ∷ vs) = (λ e. absurd (false≢true e), λ k. absurd (cons≢nil k.1))

    limited : (ps : List Parameter) → (at_most_one test (values_of t ps) ≡ true) ↔ Limited t Good ps
    limited [] = (λ e. (all_nil, none_lone all_nil), λ h. refl)
    limited (p ∷ ps) = ⊎_elim
        (λ e. rw e (
          λ h. let (good, none) = (alone p.value (values_of t ps)).0 h in
              let others = (no_values ps).0 none in (
                all_cons (λ here. (decides p.value).0 good) (All-imp (λ q n here. absurd (n here)) others),
                lone_cons (λ here. others) (none_lone others),
              ),
          λ k. (alone p.value (values_of t ps)).1 (
            (decides p.value).1 (All-head k.0 ((tagged p).0 e)),
            (no_values ps).1 (lone_first k.1 ((tagged p).0 e)),
          ),
        ))
        (λ e. rw e (
          λ h. let k = (limited ps).0 h in
              (all_cons (λ here. absurd (untagged p e here)) k.0, lone_cons (λ here. absurd (untagged p e here)) k.1),
          λ k. (limited ps).1 (All-tail k.0, lone_tail k.1),
        ))
        (true_or_false (is_tagged t p))

-- The items of a list of methods.

not_empty : (i : List ℕ) → (is_empty i ≡ false) ↔ (i ≢ [])
not_empty [] = (λ e. absurd (true≢false e), λ n. absurd (n refl))
not_empty (x ∷ i) = (λ e. cons≢nil, λ n. refl)

zipped : {P Q : List ℕ → Type 0} {is : List (List ℕ)} → All P is → All Q is → All (λ i. P i × Q i) is
zipped all_nil all_nil = all_nil
zipped (all_cons p ps) (all_cons q qs) = all_cons (p, q) (zipped ps qs)

among : (m v : List ℕ) → (names_method m (split (code ",") v) ≡ true) ↔ Among m v
among m v = (λ e. forth (split (code ",") v) refl e, λ k. back k.0 k.1 k.2 k.3)
  where
    forth : (is : List (List ℕ)) → split (code ",") v ≡ is → names_method m is ≡ true → Among m v
    forth is e h =
        let (made, some, free) = (pieces_join (code ",") v is).0 e in
        let (full, found) = (and-eq-true_iff (not (any is_empty is)) (any (same m) is)).0 h in
        let (i, member, equal) = (any_true (same m) is).0 found in
        let none_empty = (any_false is_empty is).0 (not-true (any is_empty is) full) in
        (is, made, zipped (All-imp (λ i. (not_empty i).0) none_empty) free, rw (← (same_equal m i).0 equal) at member)

    back : (is : List (List ℕ)) → v ≡ join (code ",") is → All (λ i. (i ≢ []) × All (λ x. x ≢ code ",") i) is → Memᴰ m is →
        names_method m (split (code ",") v) ≡ true
    back is made good member =
        let some : is ≢ [] = λ e. Memᴰ.not-nil (rw e at member) in
        let cut : split (code ",") v ≡ is = (pieces_join (code ",") v is).1 (made, some, All-imp (λ i k. k.1) good) in
        let full = (any_false is_empty is).1 (All-imp (λ i k. (not_empty i).1 k.0) good) in
        let found = (any_true (same m) is).1 (m, member, (same_equal m m).1 refl) in
        rw (cut, full) found

-- The two limits.

account_tag : lowered (text "accounturi") ≡ text "accounturi"
unfolding lower is_upper
account_tag = refl

method_tag : lowered (text "validationmethods") ≡ text "validationmethods"
unfolding lower is_upper
method_tag = refl

-- the account is the value, and the method is one of its items
is_account_lem : (who : Applicant) (v : List ℕ) → (same who.account v ≡ true) ↔ (v ≡ who.account)
is_account_lem who v = (λ e. sym ((same_equal who.account v).0 e), λ e. (same_equal who.account v).1 (sym e))

is_method_lem : (who : Applicant) (v : List ℕ) → (names_method who.method (split (code ",") v) ≡ true) ↔ Among who.method v
is_method_lem who v = among who.method v

pub admits_exactly : AdmitsExactly
unfolding admits
admits_exactly who ps =
    let accounts = limited (text "accounturi") account_tag _ _ (is_account_lem who) ps in
    let methods = limited (text "validationmethods") method_tag _ _ (is_method_lem who) ps in
    let both = and-eq-true_iff _ _ in
    (λ e. (accounts.0 (both.0 e).0, methods.0 (both.0 e).1), λ k. both.1 (accounts.1 k.0, methods.1 k.1))

-- What is selected keeps every parameter that a tag asks for.
kept :
    {P : Parameter → Type 0} (t : List ℕ) → ((p : Parameter) → is_tagged t p ≡ true → P p) → {ps qs : List Parameter} →
    Selects P ps qs → select (is_tagged t) ps ≡ select (is_tagged t) qs
kept t has selects_nil = refl
kept t has (selects_take {x} h s) = ap (cons_if (is_tagged t x) x) (kept t has s)
kept t has (selects_pass {x} n s) = rw (not_passed (is_tagged t x) (λ e. n (has x e))) (kept t has s)

pub others_ignored : OthersIgnored
unfolding admits
others_ignored who ps qs s =
    rw (
      kept (text "accounturi") (λ p e. inl ((tagged (text "accounturi") account_tag p).0 e)) s,
      kept (text "validationmethods") (λ p e. inr ((tagged (text "validationmethods") method_tag p).0 e)) s,
    )
