-- A name is read exactly where the octets begin with its wire form.
use Rattle.std.proofs.lemmas.Option.{none-some}
use Rattle.std.specs.Prelude.{Some}
use Prim.Native.Nat.{ℕ, zero, suc, ◌≤◌, ◌<◌}
use native.Mathlib.Nat.{not-suc-le-zero}
use native.Mathlib.Omega.{arith}
use mathlib.Core.Path.{◌≡◌, refl, sym, ◌∙◌}
use mathlib.Core.Bool.{Bool, true, false, cond}
use mathlib.Core.List.{List, [], ◌∷◌, ◌++◌, append-nil, append_assoc}
use lib.Dec.{leb, eqb}
use lib.ListN.{length, length-append}
use borrow.Author.Tests.{leb-true, le-leb, eqb-true, eqb-false, ne_eqb}
use Rattle.spec_limits.specs.Limits.{max_label_octets, max_name_octets}
use Rattle.spec_octets.specs.Lists.{All, all_nil, all_cons}
use Rattle.spec_octets.specs.Reader.{Reader, pure, fault, ◌>>=◌, octets}
use Rattle.spec_octets.proofs.ReaderLaws.{pure_some, bind_some, given_some, octets_some}
use Rattle.spec_name.specs.Names.{Label, Name, wire, labels, name, GoodName}
use Rattle.spec_name.specs.Theorems.{NameIsItsLabels, WireExample}
use Rattle.spec_name.specs.Pinned.{WireForm}

pub wire_form : WireForm
wire_form = (refl, λ l ls. refl)

-- what GoodName asks of each label
abbrev pub GoodLabel : Label → Type 0
GoodLabel l = (1 ≤ length l) × (length l ≤ max_label_octets)

-- these labels, fewer than `room`, stand at the front of s
abbrev Labels : ℕ → List ℕ → Name → List ℕ → Type 0
Labels room s n rest = (s ≡ wire n ++ rest) × All GoodLabel n × (length n < room)

abbrev LabelsRead : ℕ → Type 0
LabelsRead room = (s : List ℕ) (n : Name) (rest : List ℕ) → labels room s ≡ Some (n, rest) → Labels room s n rest

labels_read : (room : ℕ) → LabelsRead room
labels_read zero s n rest h = absurd (none-some _ h)
labels_read (suc room) [] n rest h = absurd (none-some _ h)
labels_read (suc room) (x ∷ s) n rest h = go (eqb x 0) refl (leb x max_label_octets) refl (labels_read room) h
  where
    more : Reader Name
    more = do
      l ← octets x
      ls ← labels room
      pure (l ∷ ls)

    none_left : x ≡ 0 → ([] ≡ n) × (s ≡ rest) → Labels (suc room) (x ∷ s) n rest
    none_left e found = rw (e, ← found.0, found.1) (refl, all_nil, omega arith)

    one_more_lem :
        {l : Label} {mid : List ℕ} {ls : Name} {end : List ℕ} → (x ≡ 0 → ⊥) → x ≤ max_label_octets →
        (s ≡ l ++ mid) × (length l ≡ x) → Labels room mid ls end → (l ∷ ls ≡ n) × (end ≡ rest) → Labels (suc room) (x ∷ s) n rest
    one_more_lem {l} {ls} {end} low high front back whole =
        let (p, q) = front in
        let (u, v, w) = back in
        let (e, f) = whole in
        let good : GoodLabel l = (omega arith, omega arith) in
        rw (← e, ← f, p, ← q, u) (cc (append_assoc l (wire ls) end), all_cons good v, omega arith)

    go :
        (z : Bool) → eqb x 0 ≡ z → (t : Bool) → leb x max_label_octets ≡ t → LabelsRead room →
        cond z (pure []) (cond t more fault) s ≡ Some (n, rest) → Labels (suc room) (x ∷ s) n rest
    go true e t f ih h = none_left (eqb-true _ _ e) ((pure_some [] n s rest).0 h)
    go false e true f ih h =
        let (l, mid, p, q) = (bind_some (octets x) _ s n rest).0 h in
        let (ls, end, r, w) = (bind_some (labels room) _ mid n rest).0 q in
        one_more_lem (eqb-false _ _ e) (leb-true _ _ f) ((octets_some x s l mid).0 p) (ih mid ls end r) ((pure_some (l ∷ ls) n end rest).0 w)
    go false e false f ih h = absurd (none-some _ h)

labels_stand : (room : ℕ) (n : Name) (rest : List ℕ) → All GoodLabel n → length n < room → labels room (wire n ++ rest) ≡ Some (n, rest)
labels_stand zero n rest g h = absurd (not-suc-le-zero h)
labels_stand (suc room) [] rest g h = refl
labels_stand (suc room) (l ∷ n) rest (all_cons g gs) h =
    let ih = labels_stand room n rest gs (omega arith) in
    let front = (octets_some (length l) (l ++ wire n ++ rest) l (wire n ++ rest)).1 (append_assoc l (wire n) rest, refl) in
    rw (ne_eqb (length l) 0 (λ e. omega arith), le-leb (length l) max_label_octets g.1, front, ih)

-- each label has a length octet, and the zero octet is one more
pub fewer_labels : (n : Name) → length n < length (wire n)
fewer_labels [] = omega arith
fewer_labels (l ∷ n) = let ih = fewer_labels n in simp length-append (omega arith)

pub wire_example : WireExample
wire_example = refl

pub name_is_its_labels : NameIsItsLabels
unfolding name
name_is_its_labels s n rest = (read, stand)
  where
    read : name s ≡ Some (n, rest) → (s ≡ wire n ++ rest) × GoodName n
    read h =
        let (m, mid, p, q) = (bind_some (labels max_name_octets) _ s n rest).0 h in
        let (fits, e, f) = (given_some (leb (length (wire m)) max_name_octets) m n mid rest).0 q in
        let (u, v, w) = labels_read max_name_octets s n rest (rw (e, f) at p) in
        (u, (v, rw e at (leb-true (length (wire m)) max_name_octets fits)))

    stand : (s ≡ wire n ++ rest) × GoodName n → name s ≡ Some (n, rest)
    stand h =
        let room : length n < max_name_octets = omega (arith, fewer_labels n) in
        rw (h.0, labels_stand max_name_octets n rest h.1.0 room, le-leb (length (wire n)) max_name_octets h.1.1)

-- a good name is read back from its wire form, so no two have the same
pub one_name : {m n : Name} → GoodName m → GoodName n → wire m ≡ wire n → m ≡ n
one_name {m} {n} g h e =
    let p = (name_is_its_labels (wire m) m []).1 (sym (append-nil (wire m)), g) in
    let q = (name_is_its_labels (wire m) n []).1 (e ∙ sym (append-nil (wire n)), h) in
    ((pure_some m n [] []).0 (sym p ∙ q)).0
