-- The words of the two calls on lines, and the buffer: a refusal, or the output at the start of the buffer.
use Rattle.std.specs.Prelude.{Ok, Err}
use Prim.Native.Nat.{ℕ, ◌≤◌, ◌<◌}
use native.Mathlib.Omega.{arith}
use mathlib.Core.Path.{◌≡◌, refl, sym, ap, ◌∙◌}
use mathlib.Core.Logic.{◌↔◌, ◌≢◌, ◌⊎◌, inl, inr, ⊎_elim}
use mathlib.Core.Bool.{true}
use mathlib.Core.List.{List, ◌++◌, Memᴰ}
use lib.Dec.{leb}
use lib.ListN.{length, drop, length-append, length-drop}
use lib.Seq.{take_at, drop_at}
use borrow.Author.Tests.{leb-true, leb-false}
use Rattle.spec_refusal.specs.declared.Refusal.{Refusal}
use Rattle.spec_refusal.specs.declared.Refusal.TheVariants.{RequestTooLong, BadName, TooManyNames, BadIssuer, BookTooLong, BadRecord, TooManyRecords, AliasConflict, NoRoom, BadLine, LineTooLong, BadData, SessionEnded, BadAccountOrMethod}
use Rattle.spec_refusal.specs.Refusal.{number, place}
use Rattle.spec_refusal.proofs.Table.{number_and_place_tell}
use Rattle.spec_octets.specs.Lists.{all}
use Rattle.spec_octets.proofs.ListLaws.{true_or_false, All-member, all_true}
use Rattle.spec_record.specs.Property.{Property}
use Rattle.spec_line.specs.Calls.{Output}
use Rattle.spec_packed.specs.Packed.{number_in, field_a, field_b, field_c}
use Rattle.spec_answers.specs.LineAnswers.{line_code}
use Rattle.spec_answers.specs.Door.{Outputs}
use Rattle.spec_answers.proofs.DoorWords.{Holds, of_answer, number_range, line_refused, line_0}

-- refusals 9 to 11 have the place 0
place_0 : (r : Refusal) → 9 ≤ number r → number r ≤ 11 → place r ≡ 0
unfolding number place
place_0 RequestTooLong h l = refl
place_0 (BadName k) h l = absurd (omega arith)
place_0 TooManyNames h l = absurd (omega arith)
place_0 BadIssuer h l = refl
place_0 BookTooLong h l = refl
place_0 (BadRecord r) h l = absurd (omega arith)
place_0 TooManyRecords h l = absurd (omega arith)
place_0 (AliasConflict r) h l = absurd (omega arith)
place_0 (NoRoom n) h l = absurd (omega arith)
place_0 BadLine h l = refl
place_0 LineTooLong h l = refl
place_0 BadData h l = refl
place_0 SessionEnded h l = refl
place_0 BadAccountOrMethod h l = refl

-- the numbers of the calls on lines are at most 11
pub at_most_11 : {n : ℕ} (ns : List ℕ) → all (λ m. leb m 11) ns ≡ true → Memᴰ n ns → n ≤ 11
at_most_11 {n} ns e there = leb-true n 11 (All-member ((all_true (λ m. leb m 11) ns).0 e) there)

-- x at the front, the rest as it was
abbrev pub at_front : List ℕ → List ℕ → Output
at_front x buffer = record { answer = Ok (length x); buffer = x ++ drop (length x) buffer }

length≢refused : {n : ℕ} {r : Refusal} → Ok n ≡ Err r → ⊥
length≢refused e = let z : ◌≡◌ {A = ℕ} 0 1 = cc in omega arith

-- a number fits or it is too large
pub fits_or_not : (m n : ℕ) → (m ≤ n) ⊎ (n < m)
fits_or_not m n = ⊎_elim (λ e. inl (leb-true m n e)) (λ e. inr (leb-false m n e)) (true_or_false (leb m n))

behind : (x buffer after : List ℕ) (k : ℕ) → k ≡ length x → after ≡ x ++ drop (length x) buffer → drop k after ≡ drop k buffer
behind x buffer after k l e = rw (e, l) (drop_at x _ (length x) refl)

whole_length : (x buffer : List ℕ) → length x ≤ length buffer → length (x ++ drop (length x) buffer) ≡ length buffer
whole_length x buffer room = rw length-append (omega (arith, length-drop (length x) buffer))

module _ (o : Output) (buffer : List ℕ) (w : ℕ) (u : Holds (number_in w) (field_a w) (field_b w) (field_c w) (line_code o.answer)) where
  refused_word : (r : Refusal) → ((number_in w ≡ number r) × (field_a w ≡ place r)) ↔ (o.answer ≡ Err r)
  unfolding line_code
  refused_word r = (
    λ (n, a). let (q, e, nq, pq) = line_refused _ _ _ _ o.answer u (omega (arith, number_range r)) in known e (nq ∙ n) (pq ∙ a),
    λ e. let h = of_answer _ _ _ _ line_code e u in (h.0, h.1),
  )
    where
      known : {q : Refusal} → o.answer ≡ Err q → number q ≡ number r → place q ≡ place r → o.answer ≡ Err r
      known {q} e n p = rw (number_and_place_tell q r n p) at e

  pub no_room_word : (k : ℕ) → ((number_in w ≡ 8) × (field_a w ≡ k)) ↔ (o.answer ≡ Err (NoRoom k))
  unfolding number place
  no_room_word k = refused_word (NoRoom k)

  -- a refusal without a place is known by its number
  pub placeless_word : (r : Refusal) → 9 ≤ number r → number r ≤ 11 → (number_in w ≡ number r) ↔ (o.answer ≡ Err r)
  placeless_word r big small = (
    λ n. let (q, e, nq, pq) = line_refused _ _ _ _ o.answer u (omega arith) in
        (refused_word r).0 (n, sym pq ∙ place_0 q (omega arith) (omega arith) ∙ sym (place_0 r big small)),
    λ e. ((refused_word r).1 e).0,
  )

  pub a_unused : 9 ≤ number_in w → number_in w ≤ 11 → field_a w ≡ 0
  a_unused big small =
      let (q, e, nq, pq) = line_refused _ _ _ _ o.answer u (omega arith) in sym pq ∙ place_0 q (omega arith) (omega arith)

  pub outputs : (x : List ℕ) → o ≡ at_front x buffer → Outputs (record { word = w; buffer = o.buffer }) x
  unfolding line_code
  outputs x e =
      let h = of_answer _ _ _ _ line_code (ap (λ (o : Output). o.answer) e) u in
      (h.0, h.1, rw (ap (λ (o : Output). o.buffer) e) (take_at x _ (length x) refl))

  abbrev pub Number : Refusal → Type 0
  Number bad = (number_in w ≡ 0) ⊎ ((number_in w ≡ 8) ⊎ ((number_in w ≡ number LineTooLong) ⊎ (number_in w ≡ number bad)))

  -- what holds of both calls, which make `out p` of a property p that is fine
  pub record Fills (bad : Refusal) (Good : Property → Type 0) (out : Property → List ℕ) : Type 0 where
    pub output_exactly : (number_in w ≡ 0) ↔ ((p : Property) × Good p × (length (out p) ≤ length buffer))
    pub there : number_in w ≡ 0 → (p : Property) → Good p → Outputs (record { word = w; buffer = o.buffer }) (out p)
    pub rest_stays : number_in w ≡ 0 → drop (field_a w) o.buffer ≡ drop (field_a w) buffer
    pub length_stays : length o.buffer ≡ length buffer
    pub unchanged : number_in w ≢ 0 → o.buffer ≡ buffer
    pub number_found_lem : Number bad

  module _
      (bad : Refusal) (Good : Property → Type 0) (out : Property → List ℕ)
      (placed : (p : Property) → Good p → length (out p) ≤ length buffer → o ≡ at_front (out p) buffer)
      (tight : (p : Property) → Good p → length buffer < length (out p) → o.answer ≡ Err (NoRoom (length (out p))))
      (kept : (r : Refusal) → o.answer ≡ Err r → o.buffer ≡ buffer) where
    unrefused : number_in w ≡ 0 → (r : Refusal) → o.answer ≡ Err r → ⊥
    unrefused n r e = length≢refused (sym (line_0 _ _ _ _ o.answer u n) ∙ e)

    has_room : number_in w ≡ 0 → (p : Property) → Good p → length (out p) ≤ length buffer
    has_room n p good = ⊎_elim (λ h. h) (λ h. absurd (unrefused n _ (tight p good h))) (fits_or_not (length (out p)) (length buffer))

    is_there : number_in w ≡ 0 → (p : Property) → Good p → Outputs (record { word = w; buffer = o.buffer }) (out p)
    is_there n p good = outputs (out p) (placed p good (has_room n p good))

    -- a refused call leaves the buffer
    refused_fills : (r : Refusal) → o.answer ≡ Err r → Number bad → Fills bad Good out
    refused_fills r e n = record {
      output_exactly = (λ z. absurd (unrefused z r e), λ (p, good, room). (outputs (out p) (placed p good room)).0);
      there = is_there;
      rest_stays = λ z. absurd (unrefused z r e);
      length_stays = ap length (kept r e);
      unchanged = λ z. kept r e;
      number_found_lem = n;
    }

    good_fills : (p : Property) → Good p → (length (out p) ≤ length buffer) ⊎ (length buffer < length (out p)) → Fills bad Good out
    good_fills p good (inr less) = let (n, a) = (no_room_word _).1 (tight p good less) in refused_fills _ (tight p good less) (inr (inl n))
    good_fills p good (inl room) =
        let (n, a, front) = outputs (out p) (placed p good room) in
        let e = ap (λ (o : Output). o.buffer) (placed p good room) in record {
          output_exactly = (λ z. (p, good, room), λ k. n);
          there = is_there;
          rest_stays = λ z. behind (out p) buffer o.buffer (field_a w) a e;
          length_stays = ap length e ∙ whole_length (out p) buffer room;
          unchanged = λ z. absurd (z n);
          number_found_lem = inl n;
        }

    pub fills : (o.answer ≡ Err LineTooLong) ⊎ ((o.answer ≡ Err bad) ⊎ ((p : Property) × Good p)) → Fills bad Good out
    fills (inl e) = let n = ((refused_word _).1 e).0 in refused_fills _ e (inr (inr (inl n)))
    fills (inr (inl e)) = let n = ((refused_word _).1 e).0 in refused_fills _ e (inr (inr (inr n)))
    fills (inr (inr (p, good))) = good_fills p good (fits_or_not (length (out p)) (length buffer))
