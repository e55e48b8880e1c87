-- Keeping each text once, at its first position: the same texts in the same order, and none twice.
use Prim.Native.Nat.{ℕ}
use mathlib.Core.Path.{◌≡◌, refl, sym, ap, ◌∙◌}
use mathlib.Core.Logic.{◌↔◌, ◌≢◌}
use mathlib.Core.Bool.{Bool, true, false, cond, not, ◌||◌, true≢false}
use mathlib.Core.List.{List, [], ◌∷◌}
use Rattle.spec_octets.specs.Lists.{any, select, All, all_nil, all_cons, Selects, Distinct, distinct_nil, distinct_cons}
use Rattle.spec_octets.specs.Octets.{same}
use Rattle.spec_octets.proofs.ListLaws.{not_passed, told_apart}
use Rattle.spec_octets.proofs.SelectLaws.{selected}
use Rattle.spec_octets.proofs.SelectedLists.{selects_have, selects_all, selects_distinct, any_selects}
use Rattle.spec_octets.proofs.Texts.{same_equal}
use Rattle.spec_rule.specs.IssuerLists.{distinct}
use Rattle.spec_rule.proofs.OrderLaws.{first_before, first_before_selects}

abbrev pub is_other_lem : List ℕ → List ℕ → Bool
is_other_lem n m = not (same m n)

-- what `distinct` keeps behind n
others : (n : List ℕ) (ms : List (List ℕ)) → Selects (λ m. m ≢ n) ms (select (is_other_lem n) ms)
others n ms = selected (is_other_lem n) decides ms
  where
    decides : (m : List ℕ) → (is_other_lem n m ≡ true) ↔ (m ≢ n)
    decides m = (
      λ e k. true≢false (sym e ∙ ap not ((same_equal m n).1 k)),
      λ d. ap not (not_passed (same m n) (λ e. d ((same_equal m n).0 e))),
    )

pub any_distinct : (q : List ℕ → Bool) (ns : List (List ℕ)) → any q (distinct ns) ≡ any q ns
any_distinct q [] = refl
any_distinct q (n ∷ ns) = go (q n) refl (any_distinct q ns)
  where
    go : (t : Bool) → q n ≡ t → any q (distinct ns) ≡ any q ns → t || any q (select (is_other_lem n) (distinct ns)) ≡ t || any q ns
    go true e rest = refl
    go false e rest = any_selects q (told_apart q n e) (others n (distinct ns)) ∙ rest

pub first_before_distinct : (p q : List ℕ → Bool) (ns : List (List ℕ)) → first_before p q (distinct ns) ≡ first_before p q ns
first_before_distinct p q [] = refl
first_before_distinct p q (n ∷ ns) = go (q n) refl (p n) refl (first_before_distinct p q ns)
  where
    go :
        (s : Bool) → q n ≡ s → (t : Bool) → p n ≡ t → first_before p q (distinct ns) ≡ first_before p q ns →
        cond s false (cond t (any q (select (is_other_lem n) (distinct ns))) (first_before p q (select (is_other_lem n) (distinct ns))))
        ≡ cond s false (cond t (any q ns) (first_before p q ns))
    go true qn t pn rest = refl
    go false qn true pn rest = any_selects q (told_apart q n qn) (others n (distinct ns)) ∙ any_distinct q ns
    go false qn false pn rest = first_before_selects p q (told_apart p n pn) (told_apart q n qn) (others n (distinct ns)) ∙ rest

pub distinct_all : {P : List ℕ → Type 0} {ns : List (List ℕ)} → All P ns → All P (distinct ns)
distinct_all all_nil = all_nil
distinct_all (all_cons {x = n} {xs = ns} h hs) = all_cons h (selects_all (others n (distinct ns)) (distinct_all hs))

pub distinct_distinct : (ns : List (List ℕ)) → Distinct (distinct ns)
distinct_distinct [] = distinct_nil
distinct_distinct (n ∷ ns) =
    distinct_cons (selects_have (others n (distinct ns))) (selects_distinct (others n (distinct ns)) (distinct_distinct ns))
