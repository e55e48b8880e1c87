-- The pieces of a text are the only way to make it by joining texts without the separator.
use Prim.Native.Nat.{ℕ}
use mathlib.Core.Path.{◌≡◌, refl}
use mathlib.Core.Logic.{◌≢◌}
use mathlib.Core.Bool.{Bool, true, false, cond}
use mathlib.Core.List.{List, [], ◌∷◌, ◌++◌, append-nil, cons≢nil}
use lib.Dec.{eqb}
use borrow.Author.Tests.{eqb-true, eqb-false, eq-eqb, ne_eqb}
use Rattle.spec_octets.specs.Lists.{All, all_nil, all_cons}
use Rattle.spec_octets.specs.Pieces.{extend, split, join}
use Rattle.spec_octets.specs.Theorems.{PiecesJoin, PiecesExample}
use Rattle.spec_octets.specs.Pinned.{JoinForm}
use Rattle.spec_octets.proofs.ListLaws.{All-head, All-tail}

module _ (c : ℕ) where
  abbrev Clean : List ℕ → Type 0
  Clean p = All (λ x. x ≢ c) p

  -- ps are pieces of s
  abbrev Make : List (List ℕ) → List ℕ → Type 0
  Make ps s = (s ≡ join c ps) × (ps ≢ []) × All Clean ps

  join_extend : (x : ℕ) (p : List ℕ) (ps : List (List ℕ)) → join c ((x ∷ p) ∷ ps) ≡ x ∷ join c (p ∷ ps)
  join_extend x p [] = refl
  join_extend x p (q ∷ ps) = refl

  split_makes : (s : List ℕ) → Make (split c s) s
  split_makes [] = (refl, cons≢nil, all_cons all_nil all_nil)
  split_makes (x ∷ s) = go (eqb x c) refl (split c s) (split_makes s)
    where
      go : (t : Bool) → eqb x c ≡ t → (ps : List (List ℕ)) → Make ps s → Make (cond t (◌∷◌ []) (extend x) ps) (x ∷ s)
      go t e [] h = absurd (h.1 refl)
      go true e (p ∷ ps) h = let q = h.0 in (cc (eqb-true x c e), cons≢nil, all_cons all_nil h.2)
      go false e (p ∷ ps) h =
          let q = h.0 in
          (cc (join_extend x p ps), cons≢nil, all_cons (all_cons (eqb-false x c e) (All-head h.2)) (All-tail h.2))

  -- a clean front goes into the first piece, which is empty where s ends or goes on with c
  split_front : {p : List ℕ} → Clean p → (s : List ℕ) (qs : List (List ℕ)) → split c s ≡ [] ∷ qs → split c (p ++ s) ≡ p ∷ qs
  split_front all_nil s qs e = e
  split_front (all_cons {x} n h) s qs e = rw (ne_eqb x c n, split_front h s qs e) refl

  split_join : (ps : List (List ℕ)) → ps ≢ [] → All Clean ps → split c (join c ps) ≡ ps
  split_join [] n h = absurd (n refl)
  split_join (p ∷ []) n h = rw append-nil at (split_front (All-head h) [] [] refl)
  split_join (p ∷ q ∷ ps) n h =
      split_front (All-head h) (c ∷ join c (q ∷ ps)) (q ∷ ps) (rw (eq-eqb c c refl, split_join (q ∷ ps) cons≢nil (All-tail h)) refl)

pub join_form : JoinForm
join_form c = (refl, λ p. refl, λ p q ps. refl)

pub pieces_example : PiecesExample
pieces_example = refl

pub pieces_join : PiecesJoin
pieces_join c s ps = (λ e. rw e at (split_makes c s), λ h. rw h.0 (split_join c ps h.1 h.2))
