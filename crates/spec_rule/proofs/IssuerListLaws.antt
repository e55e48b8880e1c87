-- The issuers for any list of authorizations: anyone, or those that every authorization permits.
use Prim.Native.Nat.{ℕ}
use native.Mathlib.Omega.{arith}
use mathlib.Core.Path.{◌≡◌, refl, sym, ap, ◌∙◌, fun_ext}
use mathlib.Core.Logic.Iff
use mathlib.Core.Logic.{◌↔◌, ◌⊎◌, inl, inr}
use mathlib.Core.Bool.{true, false, ◌&&◌, and-eq-true_iff, false≢true}
use mathlib.Core.List.Memᴰ
use mathlib.Core.List.{List, [], ◌∷◌, ◌++◌, Memᴰ}
use Rattle.spec_octets.specs.Lists.{all, any, select, All, all_nil, all_cons, Selects, Distinct, distinct_nil}
use Rattle.spec_octets.specs.Octets.{same, lowered}
use Rattle.spec_octets.proofs.ListLaws.{All-head, All-tail, All-member}
use Rattle.spec_octets.proofs.SelectLaws.{selected}
use Rattle.spec_octets.proofs.SelectedLists.{selects_have, selects_all, selects_distinct, any_selects}
use Rattle.spec_octets.proofs.Texts.{same_equal}
use Rattle.spec_octets.proofs.SmallLetters.{lowered_twice}
use Rattle.spec_rule.specs.Authorizations.{Authorization, unrestricted, forbidden, granted, unresolved, permits}
use Rattle.spec_rule.specs.IssuerLists.{Issuers, anyone, listed, distinct, issuers}
use Rattle.spec_rule.specs.Meaning.{Before}
use Rattle.spec_rule.proofs.AuthorizationLaws.{any_same}
use Rattle.spec_rule.proofs.OrderLaws.{first_before, first_before_selects, before_exactly}
use Rattle.spec_rule.proofs.DistinctLaws.{any_distinct, first_before_distinct, distinct_all, distinct_distinct}

pub listed≢anyone : {ns : List (List ℕ)} → listed ns ≡ anyone → ⊥
listed≢anyone e = let z : ◌≡◌ {A = ℕ} 0 1 = cc in omega arith

pub one_list : {ms ns : List (List ℕ)} → listed ms ≡ listed ns → ms ≡ ns
one_list e = cc

pub issuers_anyone : (says : List Authorization) → (issuers says ≡ anyone) ↔ All (λ a. a ≡ unrestricted) says
issuers_anyone [] = (λ e. all_nil, λ h. refl)
issuers_anyone (unrestricted ∷ says) = (λ e. all_cons refl ((issuers_anyone says).0 e), λ h. (issuers_anyone says).1 (All-tail h))
issuers_anyone (forbidden r ∷ says) =
    (λ e. absurd (listed≢anyone e), λ h. let e = All-head h in let z : ◌≡◌ {A = ℕ} 0 1 = cc in absurd (omega arith))
issuers_anyone (granted r ns ∷ says) =
    (λ e. absurd (listed≢anyone e), λ h. let e = All-head h in let z : ◌≡◌ {A = ℕ} 0 1 = cc in absurd (omega arith))
issuers_anyone (unresolved r ∷ says) =
    (λ e. absurd (listed≢anyone e), λ h. let e = All-head h in let z : ◌≡◌ {A = ℕ} 0 1 = cc in absurd (omega arith))

-- unrestricted names in front change nothing
pub issuers_past : (front says : List Authorization) → All (λ a. a ≡ unrestricted) front → issuers (front ++ says) ≡ issuers says
issuers_past [] says h = refl
issuers_past (a ∷ front) says (all_cons e h) = rw e (issuers_past front says h)

-- those listed are the ones granted, each once, whom the other authorizations permit too
issuers_selected :
    (r : ℕ) (ms : List (List ℕ)) (says : List Authorization) (ns : List (List ℕ)) → issuers (granted r ms ∷ says) ≡ listed ns →
    Selects (λ n. all (permits n) says ≡ true) (distinct ms) ns
issuers_selected r ms says ns e = rw (← one_list e) (selected (λ n. all (permits n) says) (λ n. Iff.rfl) (distinct ms))

module _ (P : List ℕ → Type 0) where
  -- all that this authorization grants to have P
  abbrev pub GrantsOnly : Authorization → Type 0
  GrantsOnly a = (r : ℕ) (ns : List (List ℕ)) → a ≡ granted r ns → All P ns

  pub issuers_all : (says : List Authorization) (ns : List (List ℕ)) → All GrantsOnly says → issuers says ≡ listed ns → All P ns
  issuers_all [] ns h e = absurd (listed≢anyone (sym e))
  issuers_all (unrestricted ∷ says) ns h e = issuers_all says ns (All-tail h) e
  issuers_all (forbidden r ∷ says) ns h e = rw (← one_list e) all_nil
  issuers_all (unresolved r ∷ says) ns h e = rw (← one_list e) all_nil
  issuers_all (granted r ms ∷ says) ns h e = selects_all (issuers_selected r ms says ns e) (distinct_all (All-head h r ms refl))

pub issuers_distinct : (says : List Authorization) (ns : List (List ℕ)) → issuers says ≡ listed ns → Distinct ns
issuers_distinct [] ns e = absurd (listed≢anyone (sym e))
issuers_distinct (unrestricted ∷ says) ns e = issuers_distinct says ns e
issuers_distinct (forbidden r ∷ says) ns e = rw (← one_list e) distinct_nil
issuers_distinct (unresolved r ∷ says) ns e = rw (← one_list e) distinct_nil
issuers_distinct (granted r ms ∷ says) ns e = selects_distinct (issuers_selected r ms says ns e) (distinct_distinct ms)

-- letter case does not matter
permits_lowered : (d : List ℕ) (a : Authorization) → permits (lowered d) a ≡ permits d a
permits_lowered d unrestricted = refl
permits_lowered d (forbidden r) = refl
permits_lowered d (unresolved r) = refl
permits_lowered d (granted r ns) = rw (lowered_twice d)

all_permit_lowered : (d : List ℕ) (says : List Authorization) → all (permits (lowered d)) says ≡ all (permits d) says
all_permit_lowered d says = ap (λ p. all p says) (fun_ext (permits_lowered d))

same_permitted : (says : List Authorization) (d : List ℕ) → all (permits d) says ≡ true → (x : List ℕ) → same d x ≡ true → all (permits x) says ≡ true
same_permitted says d h x e = rw (← (same_equal d x).0 e) h

abbrev AnyoneOr : List ℕ → Issuers → Type 0
AnyoneOr d who = (who ≡ anyone) ⊎ ((ns : List (List ℕ)) × (who ≡ listed ns) × Memᴰ d ns)

nobody_listed : (d : List ℕ) → AnyoneOr d (listed []) → false ≡ true
nobody_listed d (inl e) = absurd (listed≢anyone e)
nobody_listed d (inr (ns, e, m)) = absurd (Memᴰ.not-nil (rw (← one_list e) at m))

pub issuers_permitted : (d : List ℕ) (says : List Authorization) → (all (permits d) says ≡ true) ↔ AnyoneOr (lowered d) (issuers says)
issuers_permitted d [] = (λ e. inl refl, λ o. refl)
issuers_permitted d (unrestricted ∷ says) = issuers_permitted d says
issuers_permitted d (forbidden r ∷ says) = (λ e. absurd (false≢true e), nobody_listed (lowered d))
issuers_permitted d (unresolved r ∷ says) = (λ e. absurd (false≢true e), nobody_listed (lowered d))
issuers_permitted d (granted r ms ∷ says) = (λ e. inr (those, refl, standing.1 (both.0 e)), passed)
  where
    those : List (List ℕ)
    those = select (λ n. all (permits n) says) (distinct ms)

    chosen : Selects (λ n. all (permits n) says ≡ true) (distinct ms) those
    chosen = issuers_selected r ms says those refl

    both : (any (same (lowered d)) ms && all (permits d) says ≡ true) ↔ ((any (same (lowered d)) ms ≡ true) × (all (permits d) says ≡ true))
    both = and-eq-true_iff (any (same (lowered d)) ms) (all (permits d) says)

    -- whether the others granted are permitted does not matter
    looked_up_lem : all (permits (lowered d)) says ≡ true → any (same (lowered d)) those ≡ any (same (lowered d)) ms
    looked_up_lem h = any_selects (same (lowered d)) (same_permitted says (lowered d) h) chosen ∙ any_distinct (same (lowered d)) ms

    standing : Memᴰ (lowered d) those ↔ ((any (same (lowered d)) ms ≡ true) × (all (permits d) says ≡ true))
    standing = (
      λ m. let h = All-member (selects_have chosen) m in
          (sym (looked_up_lem h) ∙ (any_same (lowered d) those).1 m, sym (all_permit_lowered d says) ∙ h),
      λ k. (any_same (lowered d) those).0 (looked_up_lem (all_permit_lowered d says ∙ k.1) ∙ k.0),
    )

    passed : AnyoneOr (lowered d) (listed those) → any (same (lowered d)) ms && all (permits d) says ≡ true
    passed (inl e) = absurd (listed≢anyone e)
    passed (inr (ns, e, m)) = both.1 (standing.0 (rw (← one_list e) at m))

-- the order is that of the first restricted name's grants, each where it first stands
pub issuers_order :
    (r : ℕ) (ms : List (List ℕ)) (says : List Authorization) (ns : List (List ℕ)) → issuers (granted r ms ∷ says) ≡ listed ns →
    (a b : List ℕ) → Memᴰ a ns → Memᴰ b ns → Before a b ns ↔ (first_before (same a) (same b) ms ≡ true)
issuers_order r ms says ns e a b m l = rw (← kept) (before_exactly a b ns (issuers_distinct (granted r ms ∷ says) ns e))
  where
    those : Selects (λ n. all (permits n) says ≡ true) (distinct ms) ns
    those = issuers_selected r ms says ns e

    kept : first_before (same a) (same b) ns ≡ first_before (same a) (same b) ms
    kept =
        first_before_selects (same a) (same b)
        (same_permitted says a (All-member (selects_have those) m)) (same_permitted says b (All-member (selects_have those) l)) those
        ∙ first_before_distinct (same a) (same b) ms
