-- When a sequence of items is read completely, when item k of it is malformed, and when it has too many items.
use Rattle.std.proofs.lemmas.Option.{none-some}
use Rattle.std.specs.Prelude.{Option, None, Some}
use Prim.Native.Nat.{ℕ, zero, suc, ◌+◌, ◌-◌, ◌≤◌, ◌<◌}
use native.Mathlib.Omega.{arith}
use mathlib.Core.Path.{◌≡◌, refl, sym, ap, ◌∙◌}
use mathlib.Core.Logic.{◌↔◌, ◌≢◌}
use mathlib.Core.List.{List, [], ◌∷◌, ◌++◌, map, foldr, append-nil, append_assoc, append-eq-nil_iff, cons≢nil}
use lib.ListN.{length, length-append}
use Rattle.spec_octets.specs.Lists.{All, all_nil, all_cons, flatten}
use Rattle.spec_octets.specs.Octets.{Octets}
use Rattle.spec_octets.specs.Reader.{Reader}
use Rattle.spec_octets.specs.Items.{Items, whole, broken, over, follow, before, items, Front, BrokenAt, Beyond}
use Rattle.spec_octets.specs.Theorems.{ItemFaults, ItemsEndToEnd}
use Rattle.spec_octets.proofs.ListLaws.{All-head, All-tail, All-rest}
use Rattle.spec_octets.proofs.WholeLists.{not_empty}

-- items by what is left: nothing, octets beyond the limit, octets to read an item from
module _ {A : Type 0} (read : Reader A) where
  pub items_end : (room : ℕ) → items read room [] ≡ whole []
  items_end zero = refl
  items_end (suc room) = refl

  pub items_over : (s : List ℕ) → s ≢ [] → items read 0 s ≡ over
  items_over [] n = absurd (n refl)
  items_over (x ∷ s) n = refl

  pub items_step : (room : ℕ) (s : List ℕ) → s ≢ [] → items read (suc room) s ≡ before (read s) (items read room)
  items_step room [] n = absurd (n refl)
  items_step room (x ∷ s) n = refl

-- items that are whole, where any octet is left: one is read, and whole items follow
module _ {A : Type 0} (read : Reader A) where
  pub record OneMore (room : ℕ) (s : List ℕ) (xs : List A) : Type 0 where
    pub fewer : ℕ
    pub item : A
    pub rest : List ℕ
    pub others : List A
    pub room_left : room ≡ suc fewer
    pub found : read s ≡ Some (item, rest)
    pub follows : items read fewer rest ≡ whole others
    pub split : xs ≡ item ∷ others

  pub one_more_lem : (room : ℕ) (s : List ℕ) (xs : List A) → s ≢ [] → items read room s ≡ whole xs → OneMore room s xs
  one_more_lem zero [] xs n e = absurd (n refl)
  one_more_lem zero (x ∷ s) xs n e = let z : ◌≡◌ {A = ℕ} 0 1 = cc in absurd (omega arith)
  one_more_lem (suc room) [] xs n e = absurd (n refl)
  one_more_lem (suc room) (x ∷ s) xs n e = go (read (x ∷ s)) refl e
    where
      more : (a : A) (rest : List ℕ) → read (x ∷ s) ≡ Some (a, rest) → (i : Items A) → items read room rest ≡ i → follow a i ≡ whole xs → OneMore (suc room) (x ∷ s) xs
      more a rest h (whole ys) f e =
          record { fewer = room; item = a; rest = rest; others = ys; room_left = refl; found = h; follows = f; split = cc }
      more a rest h (broken k) f e = let z : ◌≡◌ {A = ℕ} 0 1 = cc in absurd (omega arith)
      more a rest h over f e = let z : ◌≡◌ {A = ℕ} 0 1 = cc in absurd (omega arith)

      go : (r : Option (A × List ℕ)) → read (x ∷ s) ≡ r → before r (λ t. items read room t) ≡ whole xs → OneMore (suc room) (x ∷ s) xs
      go None h e = let z : ◌≡◌ {A = ℕ} 0 1 = cc in absurd (omega arith)
      go (Some r) h e = more r.0 r.1 h (items read room r.1) refl e

module _ {A : Type 0} where
  follow_whole : (xs : List A) → foldr follow (whole []) xs ≡ whole xs
  follow_whole [] = refl
  follow_whole (a ∷ xs) = ap (follow a) (follow_whole xs)

  follow_broken : (xs : List A) → foldr follow (broken 0) xs ≡ broken (length xs)
  follow_broken [] = refl
  follow_broken (a ∷ xs) = ap (follow a) (follow_broken xs)

  follow_over : (xs : List A) → foldr follow over xs ≡ over
  follow_over [] = refl
  follow_over (a ∷ xs) = ap (follow a) (follow_over xs)

module _ {A : Type 0} (wire : A → List ℕ) (Good : A → Type 0) where
  -- what the octets s say, of each outcome
  abbrev Says : ℕ → List ℕ → Items A → Type 0
  Says room s (whole xs) = (s ≡ flatten (map wire xs)) × All Good xs × (length xs ≤ room)
  Says room s (broken k) = (k < room) × BrokenAt wire Good s k
  Says room s over = Beyond wire Good room s

  front_more :
      (a : A) (s t : List ℕ) (xs : List A) (rest : List ℕ) → (s ≡ wire a ++ t) × Good a → Front wire Good t xs rest →
      Front wire Good s (a ∷ xs) rest
  front_more a s t xs rest g f = (rw (append_assoc, ← f.0) g.0, all_cons g.1 f.1)

  -- one good item more in front
  says_more : (room : ℕ) (a : A) (s t : List ℕ) → (s ≡ wire a ++ t) × Good a → (r : Items A) → Says room t r → Says (suc room) s (follow a r)
  says_more room a s t g (whole xs) h = (rw (← h.0) g.0, all_cons g.1 h.1, omega arith)
  says_more room a s t g (broken k) h =
      let (xs, rest, f, l, more, bad) = h.1 in
      (omega arith, (a ∷ xs, rest, front_more a s t xs rest g f, ap suc l, more, bad))
  says_more room a s t g over h =
      let (xs, rest, f, l, more) = h in
      (a ∷ xs, rest, front_more a s t xs rest g f, ap suc l, more)

  -- the reader reads so the lists that are fit, as what is left of a fit list is again: lists of octets, or all lists
  module _
      (Fit : List ℕ → Type 0) (rests : (a b : List ℕ) → Fit (a ++ b) → Fit b) (read : Reader A)
      (reads : (s : List ℕ) → Fit s → (a : A) (rest : List ℕ) → (read s ≡ Some (a, rest)) ↔ ((s ≡ wire a ++ rest) × Good a)) where
    items_say : (room : ℕ) (s : List ℕ) → Fit s → Says room s (items read room s)
    items_say zero [] o = (refl, all_nil, omega arith)
    items_say zero (x ∷ s) o = ([], x ∷ s, (refl, all_nil), refl, cons≢nil)
    items_say (suc room) [] o = (refl, all_nil, omega arith)
    items_say (suc room) (x ∷ s) o = go (read (x ∷ s)) refl (items_say room)
      where
        go :
            (r : Option (A × List ℕ)) → read (x ∷ s) ≡ r → ((t : List ℕ) → Fit t → Says room t (items read room t)) →
            Says (suc room) (x ∷ s) (before r (items read room))
        go None e say = (
          omega arith,
          ([], x ∷ s, (refl, all_nil), refl, cons≢nil, λ a more f g. none-some _ (sym e ∙ (reads (x ∷ s) o a more).1 (f, g))),
        )
        go (Some r) e say =
            let g = (reads (x ∷ s) o r.0 r.1).0 e in
            says_more room r.0 (x ∷ s) r.1 g (items read room r.1) (say r.1 (rests (wire r.0) r.1 (rw g.0 at o)))

    -- where no good item stands, nothing is read
    unread : (s : List ℕ) → Fit s → ((a : A) (more : List ℕ) → s ≡ wire a ++ more → Good a → ⊥) → read s ≡ None
    unread s o bad = go (read s) refl
      where
        go : (r : Option (A × List ℕ)) → read s ≡ r → read s ≡ None
        go None e = e
        go (Some r) e = let (f, g) = (reads s o r.0 r.1).0 e in absurd (bad r.0 r.1 f g)

    module _ (full : (a : A) → wire a ≢ []) where
      -- good items at the front are read
      items_front :
          (xs : List A) (n room : ℕ) (s rest : List ℕ) → Fit s → n ≡ length xs + room → Front wire Good s xs rest →
          items read n s ≡ foldr follow (items read room rest) xs
      items_front [] n room s rest o e f = let m : n ≡ room = omega arith in rw (m, f.0) refl
      items_front (a ∷ xs) zero room s rest o e f = absurd (omega arith)
      items_front (a ∷ xs) (suc n) room s rest o e f =
          let t = flatten (map wire xs) ++ rest in
          let first : s ≡ wire a ++ t = rw append_assoc at f.0 in
          rw (items_step read n s (λ z. full a (append-eq-nil_iff.0 (sym first ∙ z)).0), (reads s o a t).1 (first, All-head f.1))
          (ap (follow a) (items_front xs n room t rest (rests (wire a) t (rw first at o)) (omega arith) (refl, All-tail f.1)))

      items_said : (room : ℕ) (s : List ℕ) → Fit s → (r : Items A) → Says room s r → items read room s ≡ r
      items_said room s o (whole xs) h =
          items_front xs room (room - length xs) s [] o (omega arith) (rw append-nil h.0, h.1) ∙ rw (items_end read) (follow_whole xs)
      items_said room s o (broken k) h =
          let (xs, rest, f, l, more, bad) = h.1 in
          items_front xs room (suc (room - suc k)) s rest o (omega arith) f
          ∙ rw (items_step read (room - suc k) rest more, unread rest (rests (flatten (map wire xs)) rest (rw f.0 at o)) bad, ← l) (follow_broken xs)
      items_said room s o over h =
          let (xs, rest, f, l, more) = h in
          items_front xs room 0 s rest o (omega arith) f ∙ rw (items_over read rest more) (follow_over xs)

      items_tell : (room : ℕ) (s : List ℕ) → Fit s → (r : Items A) → (items read room s ≡ r) ↔ Says room s r
      items_tell room s o r = (λ e. rw e at (items_say room s o), items_said room s o r)

pub item_faults : ItemFaults
item_faults A R bad many i = (λ xs e. rw e (refl, refl), λ k e. rw e (refl, refl), λ e. rw e (refl, refl))

pub items_end_to_end : ItemsEndToEnd
items_end_to_end A read wire Good reads full room s o = (λ xs. tell (whole xs), λ k. tell (broken k), tell over)
  where
    tell : (r : Items A) → (items read room s ≡ r) ↔ Says wire Good room s r
    tell = items_tell wire Good Octets All-rest read reads full room s o

-- Items in any list, with room for as many items as there are octets: no more can stand there.
module _ {A : Type 0} (wire : A → List ℕ) (Good : A → Type 0) (full : (a : A) → wire a ≢ []) where
  fewer : (xs : List A) → length xs ≤ length (flatten (map wire xs))
  fewer [] = omega arith
  fewer (a ∷ xs) = rw length-append (omega (arith, fewer xs, not_empty (wire a) (full a)))

  pub items_whole :
      (read : Reader A) →
      ((s : List ℕ) (a : A) (rest : List ℕ) → (read s ≡ Some (a, rest)) ↔ ((s ≡ wire a ++ rest) × Good a)) →
      (s : List ℕ) (xs : List A) → (items read (length s) s ≡ whole xs) ↔ ((s ≡ flatten (map wire xs)) × All Good xs)
  items_whole read reads s xs =
      let law = items_tell wire Good (λ s. Unit {0}) (λ a b h. tt) read (λ s h. reads s) full (length s) s tt (whole xs) in
      (λ e. let (a, b, c) = law.0 e in (a, b), λ h. law.1 (h.0, h.1, rw h.0 (fewer xs)))
