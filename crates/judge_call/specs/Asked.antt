-- What holds while the names of a request are judged, one after the other. The inputs are accepted; the table, the chains and the column of aliases are those
-- of the book; and an array notes which questions (`question_number` in book_places) were asked, with the answer that the issuer is permitted.
use Rattle.std.specs.Prelude.{ℕ, ◌*◌, ◌≡◌, Bool, true, false, List, length, get_or, replicate, None}
use Rattle.spec_limits.specs.Limits.{max_records}
use Rattle.spec_applicant.specs.Applicant.{Applicant}
use Rattle.spec_rule.specs.Authorizations.{permits}
use Rattle.spec_rule.specs.Calls.{first_refusal, judge_checks}
use Rattle.book_places.specs.Table.{room_for, table_of}
use Rattle.book_places.specs.Chains.{no_record, chains_of}
use Rattle.book_places.specs.Onward.{onward_of}
use Rattle.book_places.specs.NameAuthorizations.{answer_to, meaning}
use Rattle.book_index.specs.Indexes.{Blank}

pub record Ready (who : Applicant) (request issuer book table links heads onward : List ℕ) : Type 0 where
  pub accepted : first_refusal (judge_checks request issuer who book) ≡ None
  pub rows : table ≡ table_of book
  pub chained : links ≡ (chains_of book).links
  pub headed : heads ≡ (chains_of book).heads
  pub pointed : onward ≡ onward_of book

module _ (who : Applicant) (issuer book table links : List ℕ) where
  -- Whether the answer to the question with this number permits the issuer.
  unfoldable pub answer_permits : ℕ → Bool
  answer_permits question = permits issuer (meaning who book table links (answer_to book table links question))

  -- The array has one note for each question, which is two for each record. If a note is set, the answer to that question permits the issuer.
  pub record Asked (asked : List Bool) : Type 0 where
    pub long : length asked ≡ 2 * room_for book
    pub permit : (question : ℕ) → get_or asked question false ≡ true → answer_permits question ≡ true

-- What the inner function is lent: accepted inputs, and empty arrays with room for the records of the book.
pub record Lent (who : Applicant) (request issuer book table links heads onward : List ℕ) (asked : List Bool) : Type 0 where
  pub accepted : first_refusal (judge_checks request issuer who book) ≡ None
  pub blank : Blank book table links heads onward
  pub unasked : asked ≡ replicate (2 * room_for book) false

-- The same for the heads of the chains alone, before the size of the other arrays is chosen.
pub record HeadsLent (who : Applicant) (request issuer book heads : List ℕ) : Type 0 where
  pub accepted : first_refusal (judge_checks request issuer who book) ≡ None
  pub headed : heads ≡ replicate max_records no_record
