-- find_permitted: a law for each way out.
use Rattle.std.specs.Prelude.{Option, None, Some}
use Prim.Native.Nat.{ℕ, suc, ◌≤◌, ◌<◌}
use native.Mathlib.Omega.{arith}
use mathlib.Core.Path.{◌≡◌, refl, sym, ◌∙◌}
use mathlib.Core.Bool.{Bool, true, false, cond}
use mathlib.Core.List.{List, [], ◌∷◌, ◌++◌, append_assoc}
use lib.Dec.{ltb}
use lib.ListN.{length, take, drop, set, replicate, length-set, length-take}
use borrow.Author.Tests.{ltb-true}
use lib.Seq.{take_at}
use Rattle.spec_limits.specs.Limits.{max_names}
use Rattle.spec_applicant.specs.Applicant.{Applicant}
use Rattle.list_places.specs.declared.Permitted.{Permitted}
use Rattle.list_places.specs.Questions.{NameQuestion, unread, nothing_asked, question, questions, noted_behind, noted, once}
use Rattle.list_places.specs.PermittedBy.{PermittedIn, all_asked, by_noted, noted_in, permitted_in}
use Rattle.list_places.proofs.NotedIssuers.{noted_length}
use Rattle.list_places.proofs.PermittedParts.{permitted_parts}

-- no more are noted than the array has room for
noted_most : (qs : List NameQuestion) (n : ℕ) (numbers : List ℕ) (m : ℕ) → n ≤ length numbers → (noted_behind n numbers qs).answer ≡ Some m → m ≤ length numbers
noted_most [] n numbers m h e = let z : n ≡ m = cc in omega (arith, z, h)
noted_most (unread ∷ qs) n numbers m h e = let z : ◌≡◌ {A = ℕ} 0 1 = cc in absurd (omega arith)
noted_most (nothing_asked ∷ qs) n numbers m h e = noted_most qs n numbers m h e
noted_most (question q ∷ qs) n numbers m h e = go (ltb n (length numbers)) refl e (noted_most qs (suc n) (set numbers n q) m)
  where
    go :
        (t : Bool) → ltb n (length numbers) ≡ t →
        (cond t (noted_behind (suc n) (set numbers n q) qs) (record { answer = None; numbers = numbers })).answer ≡ Some m →
        (suc n ≤ length (set numbers n q) → (noted_behind (suc n) (set numbers n q) qs).answer ≡ Some m → m ≤ length (set numbers n q)) → m ≤ length numbers
    go true k f more =
        let room : n < length numbers = ltb-true n (length numbers) k in
        rw length-set at (more (rw length-set (omega (arith, room))) f)
    go false k f more = let z : ◌≡◌ {A = ℕ} 0 1 = cc in absurd (omega arith)

-- what is noted of some questions
module _ (d : List ℕ) (qs : List NameQuestion) (answer : Option ℕ) (numbers : List ℕ) (told : answer ≡ (noted d qs).answer)
    (told-numbers : numbers ≡ (noted d qs).numbers) (q : ℕ) (e : answer ≡ Some q) where
  pub noted_few : q ≤ length numbers
  unfolding noted
  noted_few = rw (told-numbers, noted_length qs 0 d) (noted_most qs 0 d q (omega arith) (sym told ∙ e))

  pub noted_part : q ≡ length (take q numbers)
  noted_part = omega (arith, length-take q numbers, noted_few)

module _ (who : Applicant) (request book table links heads onward names rounds : List ℕ) where
  abbrev whole : PermittedIn
  whole = permitted_in who request book table links heads onward names rounds

  -- the three ensures from one equation
  pub parts :
      {a : Option Permitted} {x y : List ℕ} → permitted_in who request book table links heads onward names rounds ≡ record { answer = a; names = x; rounds = y } →
      record { answer : a ≡ whole.answer; names : x ≡ whole.names; rounds : y ≡ whole.rounds }
  parts e = let three = permitted_parts e in record { answer = three.0; names = three.1.0; rounds = three.1.1 }

  -- the answer of note_questions, by the size of the array
  module _ (j : ℕ) (size : j ≡ max_names) (answer : Option ℕ) (numbers : List ℕ)
      (told : answer ≡ (noted (replicate j 0) (questions request book table links heads onward)).answer)
      (told-numbers : numbers ≡ (noted (replicate j 0) (questions request book table links heads onward)).numbers) where
    by_answer : whole ≡ by_noted who book table links answer numbers names rounds
    unfolding permitted_in noted_in
    by_answer = sym (rw (told, told-numbers, size))

    pub nobody_found : answer ≡ None → whole ≡ record { answer = Some (record { count = 0; round = 0 }); names = names; rounds = rounds }
    nobody_found e = by_answer ∙ rw e

    -- q questions are noted, and n of them are others than those before
    pub all_found :
        (q : ℕ) → answer ≡ Some q → (n : ℕ) → n ≡ length (once (take q numbers)) → (after : List ℕ) →
        after ≡ once (take q numbers) ++ drop (length (once (take q numbers))) (take q numbers) → (p : Option Permitted) (x y : List ℕ) →
        p ≡ (all_asked who book table links (take n (after ++ drop q numbers)) names rounds).answer →
        x ≡ (all_asked who book table links (take n (after ++ drop q numbers)) names rounds).names →
        y ≡ (all_asked who book table links (take n (after ++ drop q numbers)) names rounds).rounds →
        whole ≡ record { answer = p; names = x; rounds = y }
    all_found q e n f after h p x y u v w = by_answer ∙ rw (e, ← front, u, v, w)
      where
        front : take n (after ++ drop q numbers) ≡ once (take q numbers)
        front =
            rw (h, append_assoc)
            (take_at (once (take q numbers)) (drop (length (once (take q numbers))) (take q numbers) ++ drop q numbers) n (sym f))
