-- Checks in the order of `order` give the first row that holds.
use Rattle.std.proofs.lemmas.Option.{none-some}
use Rattle.std.specs.Prelude.{Option, None, Some}
use Prim.Native.Nat.{ℕ, ◌≤◌, ◌<◌}
use native.Mathlib.Omega.{arith}
use mathlib.Core.Path.{◌≡◌, refl, sym, ap, ◌∙◌}
use mathlib.Core.Logic.{◌↔◌, ◌⊎◌, inl, inr, ⊎_elim}
use mathlib.Core.Bool.{Bool, true, false, true≢false}
use mathlib.Core.List.Memᴰ
use mathlib.Core.List.{List, [], ◌∷◌, ◌++◌, Memᴰ}
use lib.Dec.{eqb, leb, ltb}
use borrow.Author.Tests.{leb-true, leb-false, ltb-true, eq-eqb}
use Rattle.spec_refusal.specs.declared.Refusal.{Refusal}
use Rattle.spec_refusal.specs.Refusal.{number}
use Rattle.spec_refusal.specs.Order.{order, stands_at, rank}
use Rattle.spec_octets.specs.Lists.{all, any}
use Rattle.spec_octets.proofs.ListLaws.{true_or_false, All-member, all_true, any_true}
use Rattle.spec_rule.specs.Calls.{first_refusal}
use Rattle.spec_rule.specs.Theorems.{FirstRow}

-- the position of a number in the order of checks
unfoldable pub checked_at : ℕ → ℕ
checked_at n = stands_at n order

-- each of ms is checked before each of ns
abbrev pub before : List ℕ → List ℕ → Bool
before ms ns = all (λ m. all (λ n. ltb (checked_at m) (checked_at n)) ns) ms

earlier : {ms ns : List ℕ} → before ms ns ≡ true → {m n : ℕ} → Memᴰ m ms → Memᴰ n ns → checked_at m < checked_at n
earlier {ms} {ns} sorted {m} {n} i j = ltb-true _ _ (All-member ((all_true _ ns).0 (All-member ((all_true _ ms).0 sorted) i)) j)

-- a check gives r, or a refusal that comes before r
abbrev pub Reached : Option Refusal → Refusal → Type 0
Reached c r = (c ≡ Some r) ⊎ ((p : Refusal) × (c ≡ Some p) × (checked_at (number p) < checked_at (number r)))

-- checks keep to rows: they give r only where the row of r holds, and where it holds nothing that comes after r; ns are the numbers of the rows
pub record Keeps (cs : List (Option Refusal)) (rows : Refusal → Type 0) (ns : List ℕ) : Type 0 where
  pub due : (r : Refusal) → first_refusal cs ≡ Some r → rows r
  pub reached : (r : Refusal) → rows r → Reached (first_refusal cs) r
  pub numbered : (r : Refusal) → rows r → Memᴰ (number r) ns

module _ {cs : List (Option Refusal)} {rows : Refusal → Type 0} {ns : List ℕ} (keeps : Keeps cs rows ns) where
  given_first :
      (r : Refusal) → (first_refusal cs ≡ Some r) ↔ (rows r × ((q : Refusal) → checked_at (number q) < checked_at (number r) → rows q → ⊥))
  given_first r = (
    λ e. (keeps.due r e, λ q less row. none_lower e q less (keeps.reached q row)),
    λ (row, lowest). given lowest (keeps.reached r row),
  )
    where
      none_lower : first_refusal cs ≡ Some r → (q : Refusal) → checked_at (number q) < checked_at (number r) → Reached (first_refusal cs) q → ⊥
      none_lower e q less (inl f) = let same : number q ≡ number r = cc in omega (arith, ap checked_at same)
      none_lower e q less (inr (p, f, below)) = let same : number p ≡ number r = cc in omega (arith, ap checked_at same)

      given :
          ((q : Refusal) → checked_at (number q) < checked_at (number r) → rows q → ⊥) → Reached (first_refusal cs) r → first_refusal cs ≡ Some r
      given lowest (inl e) = e
      given lowest (inr (p, e, below)) = absurd (lowest p below (keeps.due p e))

  -- such checks give the first row that holds
  pub first_row : (r : Refusal) → (first_refusal cs ≡ Some r) ↔ FirstRow rows r
  unfolding rank checked_at
  first_row r = given_first r

  -- a refusal of another number has no row here
  pub not_here : (r : Refusal) → any (eqb (number r)) ns ≡ false → rows r → ⊥
  not_here r e row =
      let there = (any_true (eqb (number r)) ns).1 (number r, keeps.numbered r row, eq-eqb (number r) (number r) refl) in
      true≢false (sym there ∙ e)

-- a check in front of others, where all its numbers come before theirs
pub in_front :
    {c : Option Refusal} {cs : List (Option Refusal)} {P Q : Refusal → Type 0} {ms ns : List ℕ} →
    Keeps (c ∷ []) P ms → Keeps cs Q ns → before ms ns ≡ true → Keeps (c ∷ cs) (λ r. P r ⊎ Q r) (ms ++ ns)
in_front {c} {cs} {P} {Q} {ms} {ns} here behind sorted = record { due = due c here; reached = reached c here; numbered = numbered }
  where
    due : (c : Option Refusal) → Keeps (c ∷ []) P ms → (r : Refusal) → first_refusal (c ∷ cs) ≡ Some r → P r ⊎ Q r
    due None here r e = inr (behind.due r e)
    due (Some p) here r e = inl (here.due r e)

    reached : (c : Option Refusal) → Keeps (c ∷ []) P ms → (r : Refusal) → P r ⊎ Q r → Reached (first_refusal (c ∷ cs)) r
    reached None here r (inl h) =
        absurd (⊎_elim (none-some r) (λ p. none-some p.0 p.1) (here.reached r h))
    reached None here r (inr h) = behind.reached r h
    reached (Some p) here r (inl h) = here.reached r h
    reached (Some p) here r (inr h) = inr (p, refl, earlier sorted (here.numbered p (here.due p refl)) (behind.numbered r h))

    numbered : (r : Refusal) → P r ⊎ Q r → Memᴰ (number r) (ms ++ ns)
    numbered r (inl h) = Memᴰ.append_left ns (here.numbered r h)
    numbered r (inr h) = Memᴰ.append_right ms (behind.numbered r h)

one_check :
    (c : Option Refusal) {rows : Refusal → Type 0} {ns : List ℕ} → ((r : Refusal) → c ≡ Some r → rows r) →
    ((r : Refusal) → rows r → Reached c r) → ((r : Refusal) → rows r → Memᴰ (number r) ns) → Keeps (c ∷ []) rows ns
one_check None due reached numbered = record { due = due; reached = reached; numbered = numbered }
one_check (Some q) due reached numbered = record { due = due; reached = reached; numbered = numbered }

-- a check with one row, without a place
pub one_row :
    {c : Option Refusal} {x : Refusal} {row : Type 0} {n : ℕ} → (c ≡ Some x) ↔ row → ((r : Refusal) → c ≡ Some r → r ≡ x) → number x ≡ n →
    Keeps (c ∷ []) (λ r. (r ≡ x) × row) (n ∷ [])
one_row {c} law only same = one_check c
    (λ r e. (only r e, law.0 (e ∙ ap Some (only r e))))
    (λ r h. inl (law.1 h.1 ∙ ap Some (sym h.0)))
    (λ r h. Memᴰ.head (ap number h.0 ∙ same))

-- a check with one row, which has a place
pub placed_row :
    {c : Option Refusal} {x : ℕ → Refusal} {row : ℕ → Type 0} {n : ℕ} → ((k : ℕ) → (c ≡ Some (x k)) ↔ row k) →
    ((r : Refusal) → c ≡ Some r → (k : ℕ) × (r ≡ x k)) → ((k : ℕ) → number (x k) ≡ n) →
    Keeps (c ∷ []) (λ r. (k : ℕ) × (r ≡ x k) × row k) (n ∷ [])
placed_row {c} law only same = one_check c
    (λ r e. let k = only r e in (k.0, k.1, (law k.0).0 (e ∙ ap Some k.1)))
    (λ r h. inl ((law h.0).1 h.2 ∙ ap Some (sym h.1)))
    (λ r h. Memᴰ.head (ap number h.1 ∙ same h.0))

-- a check of octets: too many, which is checked first, and later rows, which give their refusal where there are not too many
pub limited_rows :
    {c : Option Refusal} {long : Refusal} {size limit : ℕ} {Later : Refusal → Type 0} {i : ℕ} {ns : List ℕ} →
    (c ≡ Some long) ↔ (limit < size) → ((r : Refusal) → c ≡ Some r → (r ≡ long) ⊎ Later r) → ((r : Refusal) → Later r → size ≤ limit → c ≡ Some r) →
    ((r : Refusal) → Later r → Memᴰ (number r) ns) → number long ≡ i → before (i ∷ []) ns ≡ true →
    Keeps (c ∷ []) (λ r. ((r ≡ long) × (limit < size)) ⊎ Later r) (i ∷ ns)
limited_rows {c} {long} {size} {limit} {Later} {i} {ns} over faults fits there is-i sorted =
    one_check c (λ r e. ⊎_elim (λ f. inl (f, over.0 (e ∙ ap Some f))) inr (faults r e)) reached numbered
  where
    reached : (r : Refusal) → ((r ≡ long) × (limit < size)) ⊎ Later r → Reached c r
    reached r (inl (e, h)) = inl (over.1 h ∙ ap Some (sym e))
    reached r (inr h) = ⊎_elim
        (λ t. inl (fits r h (leb-true size limit t)))
        (λ t. inr (long, over.1 (leb-false size limit t), earlier sorted (Memᴰ.head {xs = []} is-i) (there r h)))
        (true_or_false (leb size limit))

    numbered : (r : Refusal) → ((r ≡ long) × (limit < size)) ⊎ Later r → Memᴰ (number r) (i ∷ ns)
    numbered r (inl (e, h)) = Memᴰ.head (ap number e ∙ is-i)
    numbered r (inr h) = Memᴰ.tail (there r h)

-- a row without a place, and one with a place: how a check gives its refusal
abbrev pub Row : Refusal → Type 0 → Refusal → Type 0
Row x row r = (r ≡ x) × row

abbrev pub PlacedRow : (ℕ → Refusal) → (ℕ → Type 0) → Refusal → Type 0
PlacedRow x row r = (k : ℕ) × (r ≡ x k) × row k

module _ {c : Option Refusal} {size limit : ℕ} where
  row_due : {x : Refusal} {row : Type 0} → (c ≡ Some x) ↔ ((size ≤ limit) × row) → {r : Refusal} → c ≡ Some r → r ≡ x → Row x row r
  row_due law e f = (f, (law.0 (e ∙ ap Some f)).1)

  row_fits : {x : Refusal} {row : Type 0} → (c ≡ Some x) ↔ ((size ≤ limit) × row) → {r : Refusal} → Row x row r → size ≤ limit → c ≡ Some r
  row_fits law (f, h) fits = law.1 (fits, h) ∙ ap Some (sym f)

  placed_due :
      {x : ℕ → Refusal} {row : ℕ → Type 0} → ((k : ℕ) → (c ≡ Some (x k)) ↔ ((size ≤ limit) × row k)) → {r : Refusal} → c ≡ Some r →
      (k : ℕ) × (r ≡ x k) → PlacedRow x row r
  placed_due law e (k, f) = (k, f, ((law k).0 (e ∙ ap Some f)).1)

  placed_fits :
      {x : ℕ → Refusal} {row : ℕ → Type 0} → ((k : ℕ) → (c ≡ Some (x k)) ↔ ((size ≤ limit) × row k)) → {r : Refusal} → PlacedRow x row r →
      size ≤ limit → c ≡ Some r
  placed_fits law (k, f, h) fits = (law k).1 (fits, h) ∙ ap Some (sym f)

-- a sequence of items: too many octets, a malformed item, too many items
pub three_rows :
    {c : Option Refusal} {long many : Refusal} {bad : ℕ → Refusal} {size limit : ℕ} {B : ℕ → Type 0} {O : Type 0} {i j k : ℕ} →
    (c ≡ Some long) ↔ (limit < size) → ((n : ℕ) → (c ≡ Some (bad n)) ↔ ((size ≤ limit) × B n)) → (c ≡ Some many) ↔ ((size ≤ limit) × O) →
    ((r : Refusal) → c ≡ Some r → (r ≡ long) ⊎ ((n : ℕ) × (r ≡ bad n)) ⊎ (r ≡ many)) →
    number long ≡ i → ((n : ℕ) → number (bad n) ≡ j) → number many ≡ k → before (i ∷ []) (j ∷ k ∷ []) ≡ true →
    Keeps (c ∷ []) (λ r. ((r ≡ long) × (limit < size)) ⊎ PlacedRow bad B r ⊎ Row many O r) (i ∷ j ∷ k ∷ [])
three_rows over broken beyond faults is-i is-j is-k sorted = limited_rows over
    (λ r e. ⊎_elim inl (λ f. inr (⊎_elim (λ g. inl (placed_due broken e g)) (λ g. inr (row_due beyond e g)) f)) (faults r e))
    (λ r. ⊎_elim (placed_fits broken) (row_fits beyond))
    (λ r. ⊎_elim (λ h. Memᴰ.head (ap number h.1 ∙ is-j h.0)) (λ h. Memᴰ.tail (Memᴰ.head (ap number h.0 ∙ is-k))))
    is-i sorted

-- the same, and an item that clashes with one before it
pub four_rows :
    {c : Option Refusal} {long many : Refusal} {bad clash : ℕ → Refusal} {size limit : ℕ} {B C : ℕ → Type 0} {O : Type 0} {i j k l : ℕ} →
    (c ≡ Some long) ↔ (limit < size) → ((n : ℕ) → (c ≡ Some (bad n)) ↔ ((size ≤ limit) × B n)) → (c ≡ Some many) ↔ ((size ≤ limit) × O) →
    ((n : ℕ) → (c ≡ Some (clash n)) ↔ ((size ≤ limit) × C n)) →
    ((r : Refusal) → c ≡ Some r → (r ≡ long) ⊎ ((n : ℕ) × (r ≡ bad n)) ⊎ (r ≡ many) ⊎ ((n : ℕ) × (r ≡ clash n))) →
    number long ≡ i → ((n : ℕ) → number (bad n) ≡ j) → number many ≡ k → ((n : ℕ) → number (clash n) ≡ l) →
    before (i ∷ []) (j ∷ k ∷ l ∷ []) ≡ true →
    Keeps (c ∷ []) (λ r. ((r ≡ long) × (limit < size)) ⊎ PlacedRow bad B r ⊎ Row many O r ⊎ PlacedRow clash C r) (i ∷ j ∷ k ∷ l ∷ [])
four_rows over broken beyond clashing faults is-i is-j is-k is-l sorted = limited_rows over
    (λ r e. ⊎_elim inl
    (λ f. inr (⊎_elim
    (λ g. inl (placed_due broken e g))
    (λ g. inr (⊎_elim (λ h. inl (row_due beyond e h)) (λ h. inr (placed_due clashing e h)) g))
    f))
    (faults r e))
    (λ r. ⊎_elim (placed_fits broken) (⊎_elim (row_fits beyond) (placed_fits clashing)))
    (λ r. ⊎_elim
    (λ h. Memᴰ.head (ap number h.1 ∙ is-j h.0))
    (⊎_elim
    (λ h. Memᴰ.tail (Memᴰ.head (ap number h.0 ∙ is-k)))
    (λ h. Memᴰ.tail (Memᴰ.tail (Memᴰ.head (ap number h.1 ∙ is-l h.0))))))
    is-i sorted
