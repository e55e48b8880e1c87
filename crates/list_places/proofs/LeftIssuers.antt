-- The issuers so far and what CAA says of the names left: one name after the other narrows them, and what was said before changes nothing.
use Prim.Native.Nat.{ℕ}
use mathlib.Core.Path.{◌≡◌, refl, sym, ap, ◌∙◌, fun_ext}
use mathlib.Core.Logic.{inl, inr}
use mathlib.Core.Bool.{Bool, true, false, ◌&&◌}
use mathlib.Core.List.{List, [], ◌∷◌, ◌++◌, append_assoc}
use Rattle.spec_octets.specs.Lists.{all, any, select, All, all_nil, all_cons}
use Rattle.spec_octets.specs.Octets.{same, lowered}
use Rattle.spec_octets.proofs.ListLaws.{or_eq_true, All-imp}
use Rattle.spec_octets.proofs.SelectLaws.{selected}
use Rattle.spec_octets.proofs.SelectTests.{select_every, select_nothing, select_twice}
use Rattle.spec_octets.proofs.SelectedLists.{selects_have, selects_all}
use Rattle.spec_octets.proofs.Texts.{same_equal}
use Rattle.spec_rule.specs.Authorizations.{Authorization, unrestricted, forbidden, granted, unresolved, permits}
use Rattle.spec_rule.specs.IssuerLists.{Issuers, anyone, listed, distinct, issuers}
use Rattle.spec_rule.proofs.DistinctLaws.{distinct_all}

module _ {A : Type 0} where
  pub select_alike : (p q : A → Bool) {xs : List A} → All (λ x. p x ≡ q x) xs → select p xs ≡ select q xs
  select_alike p q all_nil = refl
  select_alike p q (all_cons {x} e h) = rw (e, select_alike p q h)

  all_append : (p : A → Bool) (xs ys : List A) → all p (xs ++ ys) ≡ all p xs && all p ys
  all_append p [] ys = refl
  all_append p (x ∷ xs) ys = go (p x) (all_append p xs ys)
    where
      go : (t : Bool) → all p (xs ++ ys) ≡ all p xs && all p ys → t && all p (xs ++ ys) ≡ (t && all p xs) && all p ys
      go true rest = rest
      go false rest = refl

  -- by a test: all that are selected pass it, and those not selected are missed by nobody
  select_have : (p : A → Bool) (xs : List A) → All (λ x. p x ≡ true) (select p xs)
  select_have p xs = selects_have (selected p (λ x. (λ e. e, λ e. e)) xs)

  select_all : {P : A → Type 0} (p : A → Bool) {xs : List A} → All P xs → All P (select p xs)
  select_all p {xs} h = selects_all (selected p (λ x. (λ e. e, λ e. e)) xs) h

-- what the issuers so far and the authorizations left come to
abbrev pub left : Issuers → List Authorization → Issuers
left anyone says = issuers says
left (listed ms) says = listed (select (λ m. all (permits m) says) ms)

pub left_end : (i : Issuers) → left i [] ≡ i
left_end anyone = refl
left_end (listed ms) = ap listed (select_every ms)

pub left_unrestricted : (i : Issuers) (says : List Authorization) → left i (unrestricted ∷ says) ≡ left i says
left_unrestricted anyone says = refl
left_unrestricted (listed ms) says = refl

pub left_unresolved : (i : Issuers) (r : ℕ) (says : List Authorization) → left i (unresolved r ∷ says) ≡ listed []
left_unresolved anyone r says = refl
left_unresolved (listed ms) r says = ap listed (select_nothing ms)

pub left_forbidden : (i : Issuers) (r : ℕ) (says : List Authorization) → left i (forbidden r ∷ says) ≡ listed []
left_forbidden anyone r says = refl
left_forbidden (listed ms) r says = ap listed (select_nothing ms)

-- some, and then the others
left_listed :
    (ms : List (List ℕ)) (xs ys : List Authorization) →
    select (λ m. all (permits m) (xs ++ ys)) ms ≡ select (λ m. all (permits m) ys) (select (λ m. all (permits m) xs) ms)
left_listed ms xs ys =
    ap (λ p. select p ms) (fun_ext (λ m. all_append (permits m) xs ys))
    ∙ sym (select_twice (λ m. all (permits m) xs) (λ m. all (permits m) ys) ms)

issuers_append : (xs ys : List Authorization) → issuers (xs ++ ys) ≡ left (issuers xs) ys
issuers_append [] ys = refl
issuers_append (unrestricted ∷ xs) ys = issuers_append xs ys
issuers_append (forbidden r ∷ xs) ys = refl
issuers_append (unresolved r ∷ xs) ys = refl
issuers_append (granted r ns ∷ xs) ys = ap listed (left_listed (distinct ns) xs ys)

left_append : (i : Issuers) (xs ys : List Authorization) → left i (xs ++ ys) ≡ left (left i xs) ys
left_append anyone xs ys = issuers_append xs ys
left_append (listed ms) xs ys = ap listed (left_listed ms xs ys)

pub left_one : (i : Issuers) (a : Authorization) (ys : List Authorization) → left i (a ∷ ys) ≡ left (left i (a ∷ [])) ys
left_one i a ys = left_append i (a ∷ []) ys

pub left_behind : (xs : List Authorization) (a : Authorization) (ys : List Authorization) → left (issuers (xs ++ (a ∷ []))) ys ≡ left (issuers xs) (a ∷ ys)
left_behind xs a ys = sym (issuers_append (xs ++ (a ∷ [])) ys) ∙ ap issuers (append_assoc xs (a ∷ []) ys) ∙ issuers_append xs (a ∷ ys)

-- an authorization that leaves the issuers as they are
abbrev pub Absorbed : Issuers → Authorization → Type 0
Absorbed anyone a = a ≡ unrestricted
Absorbed (listed ms) a = All (λ m. permits m a ≡ true) ms

pub absorbs : (i : Issuers) (a : Authorization) (ys : List Authorization) → Absorbed i a → left i (a ∷ ys) ≡ left i ys
absorbs anyone a ys e = rw e
absorbs (listed ms) a ys h = ap listed (select_alike (λ m. permits m a && all (permits m) ys) (λ m. all (permits m) ys) (All-imp (λ m e. rw e) h))

-- and leaves them so once they are narrowed
pub still_absorbed : (i : Issuers) (a b : Authorization) → Absorbed i b → Absorbed (left i (a ∷ [])) b
still_absorbed anyone a b e = rw e (go a)
  where
    everyone : (ms : List (List ℕ)) → All (λ m. permits m unrestricted ≡ true) ms
    everyone [] = all_nil
    everyone (m ∷ ms) = all_cons refl (everyone ms)

    go : (c : Authorization) → Absorbed (issuers (c ∷ [])) unrestricted
    go unrestricted = refl
    go (forbidden r) = all_nil
    go (unresolved r) = all_nil
    go (granted r ns) = everyone (select (λ n. true) (distinct ns))
still_absorbed (listed ms) a b h = select_all (λ m. all (permits m) (a ∷ [])) h

-- the names that are granted are in lower case
abbrev pub Lower : Authorization → Type 0
Lower unrestricted = Unit
Lower (forbidden r) = Unit
Lower (unresolved r) = Unit
Lower (granted r ns) = All (λ n. lowered n ≡ n) ns

-- such names are among themselves
among : (ns : List (List ℕ)) → All (λ n. lowered n ≡ n) ns → All (λ m. any (same (lowered m)) ns ≡ true) ns
among [] all_nil = all_nil
among (n ∷ ns) (all_cons e h) = all_cons
    ((or_eq_true (same (lowered n) n) (any (same (lowered n)) ns)).1 (inl ((same_equal (lowered n) n).1 e)))
    (All-imp (λ m j. (or_eq_true (same (lowered m) n) (any (same (lowered m)) ns)).1 (inr j)) (among ns h))

-- what was said once is absorbed from then on
pub absorbs_itself : (i : Issuers) (a : Authorization) → Lower a → Absorbed (left i (a ∷ [])) a
absorbs_itself anyone unrestricted l = refl
absorbs_itself anyone (forbidden r) l = all_nil
absorbs_itself anyone (unresolved r) l = all_nil
absorbs_itself anyone (granted r ns) l = select_all (λ n. true) (distinct_all (among ns l))
absorbs_itself (listed ms) a l = All-imp (λ m e. go (permits m a) e) (select_have (λ m. all (permits m) (a ∷ [])) ms)
  where
    go : (t : Bool) → t && true ≡ true → t ≡ true
    go true e = e
    go false e = e
