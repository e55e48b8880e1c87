-- No label of a text is longer than the text. So the length of the text as the limit is no limit.
use Prim.Native.Nat.{ℕ, suc, ◌≤◌}
use Prim.Native.Char.{code}
use native.Mathlib.Omega.{arith}
use mathlib.Core.Path.{◌≡◌, refl}
use mathlib.Core.Bool.{Bool, true, false, cond}
use mathlib.Core.List.{List, [], ◌∷◌}
use lib.Dec.{eqb}
use lib.ListN.{length}
use borrow.Author.Tests.{le-leb}
use Rattle.spec_octets.specs.Lists.{all, All, all_nil, all_cons}
use Rattle.spec_octets.specs.Label.{is_label}
use Rattle.spec_octets.specs.Pieces.{extend, split}
use Rattle.spec_octets.proofs.ListLaws.{All-imp}
use Rattle.text_labels.specs.DottedLabels.{is_label_within, are_labels}

abbrev Short : ℕ → List (List ℕ) → Type 0
Short n ps = All (λ p. length p ≤ n) ps

pieces_short : (c : ℕ) (s : List ℕ) → Short (length s) (split c s)
pieces_short c [] = all_cons {x = []} (omega arith) all_nil
pieces_short c (x ∷ s) = go (eqb x c) (split c s) (pieces_short c s)
  where
    more : {ps : List (List ℕ)} → Short (length s) ps → Short (suc (length s)) ps
    more = All-imp (λ p h. omega arith)

    go : (t : Bool) (ps : List (List ℕ)) → Short (length s) ps → Short (suc (length s)) (cond t (◌∷◌ []) (extend x) ps)
    go true ps h = all_cons {x = []} (omega arith) (more h)
    go false [] h = all_cons {x = x ∷ []} (omega arith) all_nil
    go false (p ∷ ps) (all_cons h hs) = all_cons {x = x ∷ p} (omega arith) (more hs)

unlimited : (n : ℕ) (ps : List (List ℕ)) → Short n ps → all (is_label_within n) ps ≡ all is_label ps
unfolding is_label_within
unlimited n [] h = refl
unlimited n (p ∷ ps) (all_cons h hs) = rw (le-leb (length p) n h, unlimited n ps hs)

pub any_length : (s : List ℕ) → are_labels (length s) s ≡ all is_label (split (code ".") s)
unfolding are_labels
any_length s = unlimited (length s) (split (code ".") s) (pieces_short (code ".") s)
