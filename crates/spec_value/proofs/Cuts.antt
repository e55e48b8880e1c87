-- The pieces of a text whose first piece is known.
use Prim.Native.Nat.{ℕ}
use mathlib.Core.Path.{◌≡◌, refl, ap, ◌∙◌, sym}
use mathlib.Core.Logic.{◌≢◌}
use mathlib.Core.List.{List, [], ◌∷◌, ◌++◌, cons≢nil}
use Rattle.spec_octets.specs.Lists.{all_nil, all_cons}
use Rattle.spec_octets.specs.Pieces.{split, join}
use Rattle.spec_octets.proofs.PieceLaws.{pieces_join}
use Rattle.spec_value.proofs.Classes.{Free}

pub join_more : (c : ℕ) (p : List ℕ) (ps : List (List ℕ)) → ps ≢ [] → join c (p ∷ ps) ≡ p ++ (c ∷ join c ps)
join_more c p [] h = absurd (h refl)
join_more c p (q ∷ ps) h = refl

pub split_one : (c : ℕ) {s : List ℕ} → Free c s → split c s ≡ s ∷ []
split_one c {s} h = (pieces_join c s (s ∷ [])).1 (refl, cons≢nil, all_cons h all_nil)

pub split_more : (c : ℕ) {p : List ℕ} → Free c p → (s : List ℕ) → split c (p ++ (c ∷ s)) ≡ p ∷ split c s
split_more c {p} h s =
    let k = (pieces_join c s (split c s)).0 refl in
    (pieces_join c (p ++ (c ∷ s)) (p ∷ split c s)).1
    (ap (λ (l : List ℕ). p ++ (c ∷ l)) k.0 ∙ sym (join_more c p (split c s) k.1), cons≢nil, all_cons h k.2)
