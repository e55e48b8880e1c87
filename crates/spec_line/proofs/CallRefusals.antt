-- When a call that writes to a buffer what it has found is refused; and that a refusal leaves the buffer unchanged.
use Rattle.std.proofs.lemmas.Option.{none-some}
use Rattle.std.specs.Prelude.{Option, None, Some, Ok, Err}
use Prim.Native.Nat.{ℕ, ◌≤◌, ◌<◌}
use native.Mathlib.Omega.{arith}
use mathlib.Core.Path.{◌≡◌, refl, sym, ◌∙◌}
use mathlib.Core.Logic.{◌↔◌, ◌≢◌, ◌⊎◌, inl, inr}
use mathlib.Core.Bool.{Bool, true, false, cond}
use mathlib.Core.List.{List, ◌++◌}
use lib.Dec.{leb}
use lib.ListN.{length, drop}
use borrow.Author.Tests.{leb-true, leb-false, le-leb, lt-leb}
use Rattle.spec_refusal.specs.declared.Refusal.{Refusal}
use Rattle.spec_refusal.specs.declared.Refusal.TheVariants.{NoRoom, LineTooLong}
use Rattle.spec_line.specs.Calls.{Output, refused, placed}

placed_tight : (m buffer : List ℕ) → length buffer < length m → placed m buffer ≡ refused (NoRoom (length m)) buffer
unfolding placed
placed_tight m buffer less = rw (lt-leb (length m) (length buffer) less)

placed_refused :
    (m buffer : List ℕ) (r : Refusal) → (placed m buffer).answer ≡ Err r →
    (r ≡ NoRoom (length m)) × (length buffer < length m) × ((placed m buffer).buffer ≡ buffer)
unfolding placed
placed_refused m buffer r = go (leb (length m) (length buffer)) refl
  where
    go :
        (t : Bool) → leb (length m) (length buffer) ≡ t →
        (let o : Output = cond t (record { answer = Ok (length m); buffer = m ++ drop (length m) buffer }) (refused (NoRoom (length m)) buffer) in
        o.answer ≡ Err r → (r ≡ NoRoom (length m)) × (length buffer < length m) × (o.buffer ≡ buffer))
    go true t h = let z : ◌≡◌ {A = ℕ} 0 1 = cc in absurd (omega arith)
    go false t h = (cc, leb-false _ _ t, refl)

-- Of n octets, no more than limit, something is found, of a size no more than room, and octets are made of it: of one kind of data or another.
module _ {A : Type 0} (n limit room : ℕ) (size : A → ℕ) (made : A → List ℕ) (bad : Refusal) (buffer : List ℕ) where
  abbrev pub outcome : Option A → Output
  outcome None = refused bad buffer
  outcome (Some p) = cond (leb (size p) room) (placed (made p) buffer) (refused LineTooLong buffer)

  abbrev pub call : Option A → Output
  call found = cond (leb n limit) (outcome found) (refused LineTooLong buffer)

  module _ (found : Option A) where
    -- why the call is refused
    data Why (r : Refusal) : Type 0 where
      long : r ≡ LineTooLong → limit < n → Why r
      nothing : r ≡ bad → n ≤ limit → found ≡ None → Why r
      large : r ≡ LineTooLong → n ≤ limit → (p : A) → found ≡ Some p → room < size p → Why r
      tight :
          (p : A) → r ≡ NoRoom (length (made p)) → n ≤ limit → found ≡ Some p → size p ≤ room →
          length buffer < length (made p) → Why r

    why : (r : Refusal) → (call found).answer ≡ Err r → Why r × ((call found).buffer ≡ buffer)
    why r = within (leb n limit) refl
      where
        AnswerCode : Output → Type 0
        AnswerCode o = o.answer ≡ Err r → Why r × (o.buffer ≡ buffer)

        fitting :
            (p : A) → n ≤ limit → found ≡ Some p → (t : Bool) → leb (size p) room ≡ t →
            AnswerCode (cond t (placed (made p) buffer) (refused LineTooLong buffer))
        fitting p short e true t h =
            let (is, less, kept) = placed_refused (made p) buffer r h in
            (tight p is short e (leb-true _ _ t) less, kept)
        fitting p short e false t h = (large (cc) short p e (leb-false _ _ t), refl)

        standing : n ≤ limit → (o : Option A) → found ≡ o → AnswerCode (outcome o)
        standing short None e h = (nothing (cc) short e, refl)
        standing short (Some p) e h = fitting p short e (leb (size p) room) refl h

        within : (t : Bool) → leb n limit ≡ t → AnswerCode (cond t (outcome found) (refused LineTooLong buffer))
        within true t h = standing (leb-true _ _ t) found refl h
        within false t h = (long (cc) (leb-false _ _ t), refl)

    -- the rows, where the octets stand for what is found exactly when it is found
    module _
        (Stands : A → Type 0) (law : (p : A) → (found ≡ Some p) ↔ Stands p)
        (other : bad ≢ LineTooLong) (roomy : (k : ℕ) → bad ≢ NoRoom k) where
      abbrev pub TooLong : Type 0
      TooLong = (limit < n) ⊎ ((n ≤ limit) × ((p : A) × Stands p × (room < size p)))

      abbrev pub Nothing : Type 0
      Nothing = (n ≤ limit) × ((p : A) → Stands p → ⊥)

      abbrev pub Tight : ℕ → Type 0
      Tight k = (n ≤ limit) × ((p : A) × Stands p × (size p ≤ room) × (length (made p) ≡ k) × (length buffer < k))

      is_long : Why LineTooLong → TooLong
      is_long (long e h) = inl h
      is_long (nothing e short h) = absurd (other (sym e))
      is_long (large e short p h over) = inr (short, (p, (law p).0 h, over))
      is_long (tight p e short h fits less) = let z : ◌≡◌ {A = ℕ} 0 1 = cc in absurd (omega arith)

      long_is : TooLong → (call found).answer ≡ Err LineTooLong
      long_is (inl h) = rw (lt-leb n limit h)
      long_is (inr h) = let (p, stands, over) = h.1 in rw (le-leb n limit h.0, (law p).1 stands, lt-leb (size p) room over)

      is_nothing : Why bad → Nothing
      is_nothing (long e h) = absurd (other e)
      is_nothing (nothing e short h) = (short, λ p stands. none-some p (sym h ∙ (law p).1 stands))
      is_nothing (large e short p h over) = absurd (other e)
      is_nothing (tight p e short h fits less) = absurd (roomy _ e)

      nothing_is : Nothing → (call found).answer ≡ Err bad
      nothing_is h = go found refl
        where
          go : (o : Option A) → found ≡ o → (call found).answer ≡ Err bad
          go None e = rw (le-leb n limit h.0, e)
          go (Some p) e = absurd (h.1 p ((law p).0 e))

      is_tight : (k : ℕ) → Why (NoRoom k) → Tight k
      is_tight k (long e h) = let z : ◌≡◌ {A = ℕ} 0 1 = cc in absurd (omega arith)
      is_tight k (nothing e short h) = absurd (roomy k (sym e))
      is_tight k (large e short p h over) = let z : ◌≡◌ {A = ℕ} 0 1 = cc in absurd (omega arith)
      is_tight k (tight p e short h fits less) =
          let same : length (made p) ≡ k = cc in
          (short, (p, (law p).0 h, fits, same, rw same at less))

      tight_is : (k : ℕ) → Tight k → (call found).answer ≡ Err (NoRoom k)
      tight_is k h =
          let (p, stands, fits, same, less) = h.1 in
          rw (le-leb n limit h.0, (law p).1 stands, le-leb (size p) room fits, placed_tight (made p) buffer (omega arith), same)

      pub refusals :
          (((call found).answer ≡ Err LineTooLong) ↔ TooLong)
          × (((call found).answer ≡ Err bad) ↔ Nothing)
          × ((k : ℕ) → ((call found).answer ≡ Err (NoRoom k)) ↔ Tight k)
          × ((r : Refusal) → (call found).answer ≡ Err r → (call found).buffer ≡ buffer)
      refusals = (
        (λ h. is_long (why LineTooLong h).0, long_is),
        (λ h. is_nothing (why bad h).0, nothing_is),
        λ k. (λ h. is_tight k (why (NoRoom k) h).0, tight_is k),
        λ r h. (why r h).1,
      )
