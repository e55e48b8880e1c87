-- A sequence of items is accepted with its items, or refused by one of three rows: for requests and for books.
use Rattle.std.proofs.lemmas.Option.{none-some}
use Rattle.std.specs.Prelude.{Option, None, Some}
use Prim.Native.Nat.{ℕ, ◌+◌, ◌≤◌, ◌<◌}
use native.Mathlib.Omega.{arith}
use mathlib.Core.Path.{◌≡◌, refl, sym}
use mathlib.Core.Logic.Iff
use mathlib.Core.Logic.{◌↔◌, ◌≢◌, ◌⊎◌, inl, inr, ⊎_elim}
use mathlib.Core.Bool.{Bool, true, false, cond}
use mathlib.Core.List.{List}
use lib.Dec.{ltb}
use lib.ListN.{length}
use borrow.Author.Tests.{ltb-true, ltb-false, lt-ltb, le-ltb}
use Rattle.spec_octets.specs.Items.{Items, whole, broken, over}

-- three rows of the table of refusals, numbered from n: too many octets, an item that can't be read, too many items
pub record Rows {A R : Type 0} (refusal : Items A → Option R) (number : R → ℕ) (n : ℕ) (long : R) (bad : ℕ → R) (many : R) : Type 0 where
  pub accepts : (xs : List A) → refusal (whole xs) ≡ None
  pub breaks : (k : ℕ) → refusal (broken k) ≡ Some (bad k)
  pub exceeds : refusal over ≡ Some many
  pub first : number long ≡ n
  pub second : (k : ℕ) → number (bad k) ≡ n + 1
  pub third : number many ≡ n + 2
  pub one : {j k : ℕ} → bad j ≡ bad k → j ≡ k

module _
    {A R : Type 0} {refusal : Items A → Option R} {number : R → ℕ} {n : ℕ} {long : R} {bad : ℕ → R} {many : R}
    (rows : Rows refusal number n long bad many) where
  is_whole : (i : Items A) → refusal i ≡ None → (xs : List A) × (i ≡ whole xs)
  is_whole (whole xs) e = (xs, refl)
  is_whole (broken k) e = let z : ◌≡◌ {A = ℕ} 0 1 = cc (rows.breaks k) in absurd (omega arith)
  is_whole over e = let z : ◌≡◌ {A = ℕ} 0 1 = cc in absurd (omega arith)

  is_broken : (i : Items A) (k : ℕ) → refusal i ≡ Some (bad k) → i ≡ broken k
  is_broken (whole xs) k e = cc (rows.accepts xs)
  is_broken (broken j) k e = let same : bad j ≡ bad k = cc (rows.breaks j) in cc (rows.one same)
  is_broken over k e = let z : n + 2 ≡ n + 1 = cc (rows.second k) in absurd (omega arith)

  is_over : (i : Items A) → refusal i ≡ Some many → i ≡ over
  is_over (whole xs) e = cc (rows.accepts xs)
  is_over (broken k) e = let z : n + 2 ≡ n + 1 = cc (rows.second k, rows.breaks k) in absurd (omega arith)
  is_over over e = refl

  later : (i : Items A) (r : R) → refusal i ≡ Some r → (n < number r) × (number r ≤ n + 2)
  later (whole xs) r e = let z : ◌≡◌ {A = ℕ} 0 1 = cc (rows.accepts xs) in absurd (omega arith)
  later (broken k) r e = let z : number r ≡ n + 1 = cc (rows.second k, rows.breaks k) in omega arith
  later over r e = let z : number r ≡ n + 2 = cc in omega arith

  -- the octets s, read as i, where more than `limit` octets are too many
  module _ (limit : ℕ) (s : List ℕ) (i : Items A) where
    abbrev pub refusal_of : Option R
    refusal_of = cond (ltb limit (length s)) (Some long) (refusal i)

    reason : (o : Option R) → refusal_of ≡ o → ((limit < length s) × (Some long ≡ o)) ⊎ ((length s ≤ limit) × (refusal i ≡ o))
    reason o = go (ltb limit (length s)) refl
      where
        go :
            (t : Bool) → ltb limit (length s) ≡ t → cond t (Some long) (refusal i) ≡ o →
            ((limit < length s) × (Some long ≡ o)) ⊎ ((length s ≤ limit) × (refusal i ≡ o))
        go true t e = inl (ltb-true limit (length s) t, e)
        go false t e = inr (ltb-false limit (length s) t, e)

    too_long : (refusal_of ≡ Some long) ↔ (limit < length s)
    too_long = (
      λ e. ⊎_elim (λ h. h.0) (λ h. absurd (omega (arith, later i long h.1))) (reason (Some long) e),
      λ h. rw (lt-ltb limit (length s) h),
    )

    within : (o : Option R) → o ≢ Some long → (refusal_of ≡ o) ↔ ((length s ≤ limit) × (refusal i ≡ o))
    within o other = (
      λ e. ⊎_elim (λ h. absurd (other (sym h.1))) (λ h. h) (reason o e),
      λ h. rw (le-ltb limit (length s) h.0) h.1,
    )

    numbers : (r : R) → refusal_of ≡ Some r → (n ≤ number r) × (number r ≤ n + 2)
    numbers r e = ⊎_elim (λ h. let z : number r ≡ n = cc in omega arith) (λ h. omega (arith, later i r h.1)) (reason (Some r) e)

    pub one_of_three : (r : R) → refusal_of ≡ Some r → (r ≡ long) ⊎ ((k : ℕ) × (r ≡ bad k)) ⊎ (r ≡ many)
    one_of_three r e = ⊎_elim (λ h. inl (cc)) (λ h. inr (fault i h.1)) (reason (Some r) e)
      where
        fault : (i : Items A) → refusal i ≡ Some r → ((k : ℕ) × (r ≡ bad k)) ⊎ (r ≡ many)
        fault (whole xs) e = let z : ◌≡◌ {A = ℕ} 0 1 = cc (rows.accepts xs) in absurd (omega arith)
        fault (broken k) e = inl (k, cc (rows.breaks k))
        fault over e = inr (cc rows.exceeds)

    pub acceptance :
        (list : Items A → List A) {W : List A → Type 0} → ((xs : List A) → list (whole xs) ≡ xs) →
        ((xs : List A) → (i ≡ whole xs) ↔ W xs) → (xs : List A) → ((refusal_of ≡ None) × (list i ≡ xs)) ↔ (W xs × (length s ≤ limit))
    acceptance list listed law xs = (
      λ h. let (fits, e) = (within None (none-some long)).0 h.0 in
          let (ys, w) = is_whole i e in
          ((law xs).0 (cc (listed ys)), fits),
      λ h. let w = (law xs).1 h.0 in ((within None (none-some long)).1 (h.1, rw w (rows.accepts xs)), rw w (listed xs)),
    )

    -- a row below the first: it is answered where the octets are no more than `limit` and i is the j that it stands for
    row :
        (r : R) {j : Items A} {C : Type 0} → n < number r → (refusal i ≡ Some r) ↔ (i ≡ j) → (i ≡ j) ↔ C →
        (refusal_of ≡ Some r) ↔ ((length s ≤ limit) × C)
    row r below is law =
        Iff.trans (within (Some r) (λ e. let z : number r ≡ n = cc in omega arith)) (Iff.and Iff.rfl (Iff.trans is law))

    pub refusals :
        {B : ℕ → Type 0} {O : Type 0} → ((k : ℕ) → (i ≡ broken k) ↔ B k) → (i ≡ over) ↔ O →
        ((refusal_of ≡ Some long) ↔ (limit < length s))
        × ((k : ℕ) → (refusal_of ≡ Some (bad k)) ↔ ((length s ≤ limit) × B k))
        × ((refusal_of ≡ Some many) ↔ ((length s ≤ limit) × O))
        × ((r : R) → refusal_of ≡ Some r → (n ≤ number r) × (number r ≤ n + 2))
    refusals breaks exceeds = (
      too_long,
      λ k. row (bad k) (omega (arith, rows.second k)) (is_broken i k, λ e. rw e (rows.breaks k)) (breaks k),
      row many (omega arith) (is_over i, λ e. rw e rows.exceeds) exceeds,
      numbers,
    )
