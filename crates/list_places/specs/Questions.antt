-- The questions that a request asks, one for each name: what does the relevant set of this name say about X, or about *.X? Each question has a
-- number (`question_number` in book_places), and the numbers are noted in an array.
use Rattle.read_request.specs.declared.Requested.{Requested}
use Rattle.spec_refusal.specs.declared.RecordNo.{RecordNo}
use Rattle.std.specs.Prelude.{ℕ, zero, suc, ◌-◌, ◌*◌, Bool, true, false, cond, List, [], ◌∷◌, leb, ltb, length, take, drop, get_or, set, replicate, Option, Some, None}
use Rattle.spec_limits.specs.Limits.{max_records}
use Rattle.read_request.specs.Places.{requested_at}
use Rattle.book_places.specs.Sets.{nearest_record}
use Rattle.book_places.specs.NameAuthorizations.{question_number}

-- What one name asks. It asks nothing if it has no relevant set. The names of an accepted request can all be read.
pub data NameQuestion : Type 0 where
  unread : NameQuestion
  nothing_asked : NameQuestion
  question : ℕ → NameQuestion

-- The question of a name, given the first record of its relevant set, if there is one.
abbrev pub question_by : Bool → Option RecordNo → NameQuestion
question_by wildcard None = nothing_asked
question_by wildcard (Some set) = question (question_number set wildcard)

-- The questions of the names of a request.
module _ (request book table links heads onward : List ℕ) where
  -- The question of one name, then those of the rest. After a name that cannot be read there are no more.
  abbrev pub question_of : Option Requested → (ℕ → List NameQuestion) → List NameQuestion
  question_of None rest = unread ∷ []
  question_of (Some n) rest =
      question_by n.wildcard (nearest_record book table links heads onward (take (n.next - n.base) (drop n.base request))) ∷ rest n.next

  -- The questions of the names from offset `at` on, at most `steps` of them.
  abbrev pub questions_from : ℕ → ℕ → List NameQuestion
  questions_from zero at = []
  questions_from (suc steps) at = cond (leb (length request) at) [] (question_of (requested_at request at) (questions_from steps))

  unfoldable pub questions : List NameQuestion
  questions = questions_from (length request) 0

-- How many questions are noted, and the array with their numbers.
pub record NotedQuestions : Type 0 where
  pub answer : Option ℕ
  pub numbers : List ℕ

-- Notes a list of questions after the n that are noted already. If one is not readable, or the array is full, the answer is that the questions are
-- unknown.
abbrev pub noted_behind : ℕ → List ℕ → List NameQuestion → NotedQuestions
noted_behind n numbers [] = record { answer = Some n; numbers = numbers }
noted_behind n numbers (unread ∷ qs) = record { answer = None; numbers = numbers }
noted_behind n numbers (nothing_asked ∷ qs) = noted_behind n numbers qs
noted_behind n numbers (question q ∷ qs) =
    cond (ltb n (length numbers)) (noted_behind (suc n) (set numbers n q) qs) (record { answer = None; numbers = numbers })

unfoldable pub noted : List ℕ → List NameQuestion → NotedQuestions
noted numbers qs = noted_behind 0 numbers qs

-- A list of numbers without repeats: each stays where it first comes. `asked` marks those that came before. A number past the end of `asked` is
-- kept every time.
abbrev pub once_behind : List Bool → List ℕ → List ℕ
once_behind asked [] = []
once_behind asked (q ∷ qs) = cond (get_or asked q false) (once_behind asked qs) (q ∷ once_behind (set asked q true) qs)

unfoldable pub once : List ℕ → List ℕ
once qs = once_behind (replicate (2 * max_records) false) qs
