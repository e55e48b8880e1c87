-- The questions noted give the issuers that the names of a request give.
use Rattle.std.specs.Prelude.{Option, None, Some}
use Prim.Native.Nat.{ℕ, suc, ◌+◌, ◌≤◌}
use native.Mathlib.Omega.{arith}
use mathlib.Core.Path.{◌≡◌, refl, sym, ap, ◌∙◌}
use mathlib.Core.Bool.{Bool, true, false, cond}
use mathlib.Core.List.{List, [], ◌∷◌, ◌++◌, map}
use lib.Dec.{ltb}
use lib.ListN.{length, take, set, length-set}
use lib.Seq.{take-suc-set}
use borrow.Author.Tests.{lt-ltb}
use Rattle.spec_rule.specs.Authorizations.{Authorization, unrestricted, forbidden}
use Rattle.spec_rule.specs.IssuerLists.{Issuers, listed, issuers}
use Rattle.list_places.specs.Questions.{NameQuestion, unread, nothing_asked, question, noted_behind}
use Rattle.list_places.proofs.LeftIssuers.{left, left_end, left_unrestricted, left_forbidden, left_behind}

-- noting keeps the length of the array
pub noted_length : (qs : List NameQuestion) (n : ℕ) (numbers : List ℕ) → length (noted_behind n numbers qs).numbers ≡ length numbers
noted_length [] n numbers = refl
noted_length (unread ∷ qs) n numbers = refl
noted_length (nothing_asked ∷ qs) n numbers = noted_length qs n numbers
noted_length (question q ∷ qs) n numbers = go (ltb n (length numbers)) (noted_length qs (suc n) (set numbers n q))
  where
    go :
        (t : Bool) → length (noted_behind (suc n) (set numbers n q) qs).numbers ≡ length (set numbers n q) →
        length (cond t (noted_behind (suc n) (set numbers n q) qs) (record { answer = None; numbers = numbers })).numbers ≡ length numbers
    go true rest = rest ∙ length-set numbers n q
    go false rest = refl

map_behind : {A B : Type 0} (f : A → B) (xs : List A) (x : A) → map f (xs ++ (x ∷ [])) ≡ map f xs ++ (f x ∷ [])
map_behind f [] x = refl
map_behind f (y ∷ xs) x = ap (◌∷◌ (f y)) (map_behind f xs x)

-- each question is answered so
module _ (answer : ℕ → Authorization) where
  -- what is said of a name by its question
  abbrev pub said_by : NameQuestion → Authorization
  said_by unread = forbidden 0
  said_by nothing_asked = unrestricted
  said_by (question q) = answer q

  -- who may sign by the questions noted
  abbrev pub by_numbers : Option ℕ → List ℕ → Issuers
  by_numbers None numbers = listed []
  by_numbers (Some n) numbers = issuers (map answer (take n numbers))

  pub noted_issuers :
      (qs : List NameQuestion) (n : ℕ) (numbers : List ℕ) → n + length qs ≤ length numbers →
      by_numbers (noted_behind n numbers qs).answer (noted_behind n numbers qs).numbers ≡ left (issuers (map answer (take n numbers))) (map said_by qs)
  noted_issuers [] n numbers h = sym (left_end (issuers (map answer (take n numbers))))
  noted_issuers (unread ∷ qs) n numbers h = sym (left_forbidden (issuers (map answer (take n numbers))) 0 (map said_by qs))
  noted_issuers (nothing_asked ∷ qs) n numbers h =
      noted_issuers qs n numbers (omega arith) ∙ sym (left_unrestricted (issuers (map answer (take n numbers))) (map said_by qs))
  noted_issuers (question q ∷ qs) n numbers h =
      rw (lt-ltb n (length numbers) (omega arith))
      (noted_issuers qs (suc n) (set numbers n q) (rw length-set (omega arith))
      ∙ rw (take-suc-set numbers n q (omega arith), map_behind answer (take n numbers) q) (left_behind (map answer (take n numbers)) (answer q) (map said_by qs)))
