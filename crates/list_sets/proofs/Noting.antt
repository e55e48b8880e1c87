-- Noting the questions of a request's names, one after the other: the names that are left give the same numbers in the end.
use Rattle.std.specs.Prelude.{Option, Some, None}
use Prim.Native.Nat.{ℕ, zero, suc, ◌+◌, ◌-◌, ◌≤◌, ◌<◌}
use native.Mathlib.Omega.{arith}
use native.Mathlib.Numerals.{add-one}
use mathlib.Core.Path.{◌≡◌, refl, sym, ap, ◌∙◌}
use mathlib.Core.Bool.{Bool, true, false, cond}
use mathlib.Core.List.{List, [], ◌∷◌}
use lib.ListN.{length, take, drop, set, length-set}
use mir.Syntax.{w16}
use mir.Val.{Fits}
use borrow.Author.Tests.{le-leb, lt-leb, lt-ltb, le-ltb}
use Rattle.spec_refusal.specs.declared.RecordNo.{RecordNo}
use Rattle.read_request.specs.Places.{requested_at}
use Rattle.read_request.specs.declared.Requested.{Requested}
use Rattle.read_request.proofs.RequestPlaces.{requested_there, next_after}
use Rattle.book_places.specs.Sets.{nearest_record}
use Rattle.book_places.specs.NameAuthorizations.{question_number}
use Rattle.list_places.specs.Questions.{NameQuestion, question_by, question_of, questions_from, questions, NotedQuestions, noted_behind, noted}

pub number_fits : (r : RecordNo) (wildcard : Bool) (q : ℕ) → q ≡ question_number r wildcard → Fits w16 q
unfolding question_number
number_fits r wildcard q e = record { fits = omega (arith, e, digit wildcard) }
  where
    digit : (w : Bool) → cond w 1 0 ≤ 1
    digit true = omega arith
    digit false = omega arith

module _ (request book table links heads onward : List ℕ) where
  -- the two ensures from one equation
  pub halves :
      (d : List ℕ) {answer : Option ℕ} {numbers : List ℕ} → noted d (questions request book table links heads onward) ≡ record { answer = answer; numbers = numbers } →
      record {
        answer : answer ≡ (noted d (questions request book table links heads onward)).answer;
        numbers : numbers ≡ (noted d (questions request book table links heads onward)).numbers;
      }
  halves d e = record { answer = sym (ap (λ (k : NotedQuestions). k.answer) e); numbers = sym (ap (λ (k : NotedQuestions). k.numbers) e) }

  abbrev from : ℕ → ℕ → List NameQuestion
  from steps at = questions_from request book table links heads onward steps at

  -- the array was d; with steps enough for the names left
  pub record Noting (d numbers : List ℕ) (n at : ℕ) : Type 0 where
    pub steps : ℕ
    pub enough : length request ≤ steps + at
    pub left : noted d (questions request book table links heads onward) ≡ noted_behind n numbers (questions_from request book table links heads onward steps at)
    pub same_length : length numbers ≡ length d

  pub note_start : (d : List ℕ) → Noting d d 0 0
  unfolding noted questions
  note_start d = record { steps = length request; enough = omega arith; left = refl; same_length = refl }

  module _ (d numbers : List ℕ) (n at : ℕ) (m : Noting d numbers n at) where
    pub note_length : length numbers ≡ length d
    note_length = m.same_length

    pub note_over : length request ≤ at → noted d (questions request book table links heads onward) ≡ record { answer = Some n; numbers = numbers }
    note_over h = m.left ∙ ap (noted_behind n numbers) (none m.steps)
      where
        none : (steps : ℕ) → from steps at ≡ []
        none zero = refl
        none (suc steps) = rw (le-leb (length request) at h)

    module _ (h : at < length request) (o : Option Requested) (f : o ≡ requested_at request at) where
      -- with one step for this name
      one : (k : ℕ) × (length request ≤ suc k + at) × (from m.steps at ≡ question_of request book table links heads onward o (from k))
      one = go m.steps m.enough
        where
          go : (steps : ℕ) → length request ≤ steps + at → (k : ℕ) × (length request ≤ suc k + at) × (from steps at ≡ question_of request book table links heads onward o (from k))
          go zero e = absurd (omega arith)
          go (suc k) e = (k, e, rw (lt-leb (length request) at h, ← f))

      pub bad_name_lem : o ≡ None → noted d (questions request book table links heads onward) ≡ record { answer = None; numbers = numbers }
      bad_name_lem g = m.left ∙ ap (noted_behind n numbers) (one.2 ∙ ap (λ r. question_of request book table links heads onward r (from one.0)) g)

      pub base_first : (r : Requested) → o ≡ Some r → r.base ≤ r.next
      base_first r g = omega (arith, (requested_there request at o f r g).1.onward)

      module _ (r : Requested) (g : o ≡ Some r) (p : Option RecordNo)
          (e : p ≡ nearest_record book table links heads onward (take (r.next - r.base) (drop r.base request))) where
        by_name : noted d (questions request book table links heads onward) ≡ noted_behind n numbers (question_by r.wildcard p ∷ from one.0 r.next)
        by_name =
            m.left
            ∙ ap (noted_behind n numbers)
            (one.2 ∙ ap (λ q. question_of request book table links heads onward q (from one.0)) g
            ∙ ap (λ b. question_by r.wildcard b ∷ from one.0 r.next) (sym e))

        noted_on :
            {numbers' : List ℕ} {n' : ℕ} → noted d (questions request book table links heads onward) ≡ noted_behind n' numbers' (from one.0 r.next) → length numbers' ≡ length d →
            Noting d numbers' n' r.next
        noted_on k l = record { steps = one.0; enough = omega (arith, one.1, next_after request at o f r g); left = k; same_length = l }

        pub nothing_relevant : p ≡ None → Noting d numbers n r.next
        nothing_relevant k = noted_on (by_name ∙ rw k) m.same_length

        module _ (s : RecordNo) (k : p ≡ Some s) where
          pub no_room : length numbers ≤ n → noted d (questions request book table links heads onward) ≡ record { answer = None; numbers = numbers }
          no_room l = by_name ∙ rw (k, le-ltb n (length numbers) l)

          pub one_noted : n < length numbers → (q : ℕ) → q ≡ question_number s r.wildcard → Noting d (set numbers n q) (n + 1) r.next
          one_noted l q b =
              noted_on (by_name ∙ rw (k, lt-ltb n (length numbers) l, b, add-one n)) (length-set numbers n q ∙ m.same_length)
