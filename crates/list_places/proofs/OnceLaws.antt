-- Questions each once: those left out were answered before, so the issuers stay.
use Prim.Native.Nat.{ℕ, suc, ◌≤◌, ◌*◌}
use native.Mathlib.Omega.{arith}
use mathlib.Core.Path.{◌≡◌, refl, sym, ◌∙◌}
use mathlib.Core.Bool.{Bool, true, false, cond, false≢true}
use mathlib.Core.List.{List, [], ◌∷◌, map}
use lib.Dec.{ltb, eqb}
use lib.ListN.{length, get_or, set, replicate, get_or-eq_default, get_or-replicate, length-replicate}
use lib.Seq.{get_or-set_other}
use borrow.Author.Tests.{eqb-true, eqb-false, ltb-true, ltb-false}
use Rattle.spec_limits.specs.Limits.{max_records}
use Rattle.spec_rule.specs.Authorizations.{Authorization}
use Rattle.spec_rule.specs.IssuerLists.{Issuers, anyone, issuers}
use Rattle.list_places.specs.Questions.{once_behind, once}
use Rattle.list_places.proofs.LeftIssuers.{left, left_one, Absorbed, absorbs, still_absorbed, Lower, absorbs_itself}

none_asked : (q : ℕ) → get_or (replicate (2 * max_records) false) q false ≡ false
none_asked q = go (ltb q (2 * max_records)) refl
  where
    go : (t : Bool) → ltb q (2 * max_records) ≡ t → get_or (replicate (2 * max_records) false) q false ≡ false
    go true e = get_or-replicate (2 * max_records) q false false (ltb-true q (2 * max_records) e)
    go false e =
        get_or-eq_default (replicate (2 * max_records) false) false {n = q}
        (rw (length-replicate {A = Bool} (2 * max_records) false) (ltb-false q (2 * max_records) e))

-- each question is answered so
module _ (answer : ℕ → Authorization) (lower : (q : ℕ) → Lower (answer q)) where
  -- the answers to those met are absorbed
  abbrev Met : Issuers → List Bool → Type 0
  Met i asked = (q : ℕ) → get_or asked q false ≡ true → Absorbed i (answer q)

  one_met : (i : Issuers) (asked : List Bool) (q : ℕ) → Met i asked → Met (left i (answer q ∷ [])) (set asked q true)
  one_met i asked q h d k = go (eqb d q) refl
    where
      go : (t : Bool) → eqb d q ≡ t → Absorbed (left i (answer q ∷ [])) (answer d)
      go true f = rw (eqb-true d q f) (absorbs_itself i (answer q) (lower q))
      go false f = still_absorbed i (answer q) (answer d) (h d (sym (get_or-set_other asked q d true false (eqb-false d q f)) ∙ k))

  once_left : (i : Issuers) (asked : List Bool) (qs : List ℕ) → Met i asked → left i (map answer (once_behind asked qs)) ≡ left i (map answer qs)
  once_left i asked [] h = refl
  once_left i asked (q ∷ qs) h = go (get_or asked q false) refl (λ j ds. once_left j ds qs)
    where
      go :
          (t : Bool) → get_or asked q false ≡ t →
          ((j : Issuers) (ds : List Bool) → Met j ds → left j (map answer (once_behind ds qs)) ≡ left j (map answer qs)) →
          left i (map answer (cond t (once_behind asked qs) (q ∷ once_behind (set asked q true) qs))) ≡ left i (answer q ∷ map answer qs)
      go true e rest = rest i asked h ∙ sym (absorbs i (answer q) (map answer qs) (h q e))
      go false e rest =
          left_one i (answer q) (map answer (once_behind (set asked q true) qs))
          ∙ rest (left i (answer q ∷ [])) (set asked q true) (one_met i asked q h)
          ∙ sym (left_one i (answer q) (map answer qs))

  pub once_issuers : (qs : List ℕ) → issuers (map answer (once qs)) ≡ issuers (map answer qs)
  unfolding once
  once_issuers qs = once_left anyone (replicate (2 * max_records) false) qs (λ q e. absurd (false≢true (sym (none_asked q) ∙ e)))

fewer_behind : (asked : List Bool) (qs : List ℕ) → length (once_behind asked qs) ≤ length qs
fewer_behind asked [] = omega arith
fewer_behind asked (q ∷ qs) = go (get_or asked q false) (λ ds. fewer_behind ds qs)
  where
    go :
        (t : Bool) → ((ds : List Bool) → length (once_behind ds qs) ≤ length qs) →
        length (cond t (once_behind asked qs) (q ∷ once_behind (set asked q true) qs)) ≤ suc (length qs)
    go true rest = omega (arith, rest asked)
    go false rest = omega (arith, rest (set asked q true))

pub once_fewer : (qs : List ℕ) → length (once qs) ≤ length qs
unfolding once
once_fewer qs = fewer_behind (replicate (2 * max_records) false) qs
