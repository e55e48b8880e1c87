-- The questions of the names of an accepted request are answered by what the rule says of them.
use Rattle.read_request.specs.declared.Requested.{Requested}
use Rattle.spec_refusal.specs.declared.RecordNo.{RecordNo}
use Rattle.std.specs.Prelude.{None, Option, Some}
use Prim.Native.Nat.{ℕ, zero, suc, ◌+◌, ◌≤◌, ◌<◌}
use native.Mathlib.Omega.{arith}
use mathlib.Core.Path.{◌≡◌, refl, ap, ◌∙◌}
use mathlib.Core.Bool.{Bool, true, false, cond}
use mathlib.Core.List.{List, [], map}
use lib.Dec.{leb}
use lib.ListN.{length}
use borrow.Author.Tests.{leb-true, leb-false}
use Rattle.spec_limits.specs.Limits.{max_names, max_records}
use Rattle.spec_name.specs.Names.{Name, wire, GoodName}
use Rattle.spec_request.specs.Request.{is_wildcard, base, requested_names, request_refusal}
use Rattle.read_request.specs.Places.{requested_at}
use Rattle.spec_request.proofs.RequestedNames.{good_base}
use Rattle.read_request.proofs.RequestPlaces.{next_after}
use Rattle.read_request.proofs.AcceptedNames.{NamesLeft, all_names, names_end, names_good, next_name}
use Rattle.spec_record.specs.Records.{records, book_refusal}
use Rattle.spec_applicant.specs.Applicant.{Applicant}
use Rattle.spec_rule.specs.RelevantSet.{as_book}
use Rattle.spec_rule.specs.Authorizations.{Authorization, authorization}
use Rattle.book_places.specs.Table.{table_of}
use Rattle.book_places.specs.Chains.{Chains, chains_of}
use Rattle.book_places.specs.Onward.{onward_of}
use Rattle.book_places.specs.Sets.{nearest_record}
use Rattle.book_places.specs.NameAuthorizations.{by_set, name_authorization, answer_to, meaning}
use Rattle.book_places.proofs.Bounds.{FirstBelow, nearest_below}
use Rattle.book_places.proofs.StandingRecords.{room_enough}
use Rattle.book_places.proofs.ChainedRecords.{chains_fit}
use Rattle.book_places.proofs.AuthorizationLaws.{authorization_by_offset}
use Rattle.book_places.proofs.Questions.{question_by_number}
use Rattle.list_places.specs.Questions.{NameQuestion, question_by, question_of, questions_from, questions}
use Rattle.list_places.proofs.NotedIssuers.{said_by}

-- the answer to a question of a name, in the rule's words
abbrev pub answered : Applicant → List ℕ → List ℕ → List ℕ → ℕ → Authorization
answered who book table links q = meaning who book table links (answer_to book table links q)

-- a set is told by the number of its question
by_question :
    (who : Applicant) (book table links : List ℕ) (wildcard : Bool) (o : Option RecordNo) → FirstBelow links o → length links ≤ 32768 →
    said_by (answered who book table links) (question_by wildcard o) ≡ meaning who book table links (by_set book table links wildcard o)
by_question who book table links wildcard None h few = refl
by_question who book table links wildcard (Some set) h few = ap (meaning who book table links) (question_by_number book table links set wildcard (omega arith))

module _ (who : Applicant) (request book : List ℕ) (good : book_refusal book ≡ None) where
  abbrev table : List ℕ
  table = table_of book

  abbrev chains : Chains
  chains = chains_of book

  -- what the rule says
  abbrev says : Name → Authorization
  says n = authorization who (as_book (records book)) n

  abbrev said : NameQuestion → Authorization
  said q = said_by (answered who book table chains.links) q

  said_of_name :
      (n : Name) → GoodName n → {x : List ℕ} {wildcard : Bool} → x ≡ wire (base n) → wildcard ≡ is_wildcard n →
      said (question_by wildcard (nearest_record book table chains.links chains.heads (onward_of book) x)) ≡ says n
  unfolding authorization name_authorization max_records
  said_of_name n g {x} {wildcard} e w =
      by_question who book table chains.links wildcard (nearest_record book table chains.links chains.heads (onward_of book) x)
      (nearest_below chains.links book table chains.heads (onward_of book) x) (omega (arith, (chains_fit book).0, (room_enough book).1))
      ∙ rw (e, w) (authorization_by_offset who book (base n) (is_wildcard n) good (good_base n g))

  -- of the names left, behind k of them
  pub record SaidOf (k : ℕ) (names : List Name) (qs : List NameQuestion) : Type 0 where
    pub same : map said qs ≡ map says names
    pub few : k + length qs ≤ max_names

  abbrev SaysOf : ℕ → Type 0
  SaysOf steps =
      (at k : ℕ) (names : List Name) → NamesLeft request at k names → length request ≤ steps + at →
      SaidOf k names (questions_from request book table chains.links chains.heads (onward_of book) steps at)

  none_left : (at k : ℕ) (names : List Name) → NamesLeft request at k names → length request ≤ at → SaidOf k names []
  none_left at k names w h = record { same = rw (names_end request w h); few = omega (arith, w.within) }

  said_from : (steps : ℕ) → SaysOf steps
  said_from zero at k names w h = none_left at k names w (omega arith)
  said_from (suc steps) at k names w h = go (leb (length request) at) refl (said_from steps)
    where
      step :
          at < length request → SaysOf steps → (o : Option Requested) → o ≡ requested_at request at →
          SaidOf k names (question_of request book table chains.links chains.heads (onward_of book) o (questions_from request book table chains.links chains.heads (onward_of book) steps))
      step l rest None f = absurd (names_good request w l None f refl)
      step l rest (Some r) f =
          let this = next_name request w l (Some r) f r refl in
          let later = rest r.next (suc k) this.others this.after (omega (arith, next_after request at (Some r) f r refl)) in
          record {
            same = rw (this.split, said_of_name this.first this.good this.octets this.wild, later.same);
            few = omega (arith, later.few);
          }

      go :
          (t : Bool) → leb (length request) at ≡ t → SaysOf steps →
          SaidOf k names (cond t [] (question_of request book table chains.links chains.heads (onward_of book) (requested_at request at) (questions_from request book table chains.links chains.heads (onward_of book) steps)))
      go true e rest = none_left at k names w (leb-true (length request) at e)
      go false e rest = step (leb-false (length request) at e) rest (requested_at request at) refl

  pub said_names : request_refusal request ≡ None → SaidOf 0 (requested_names request) (questions request book table chains.links chains.heads (onward_of book))
  unfolding questions
  said_names r = said_from (length request) 0 0 (requested_names request) (all_names request r) (omega arith)
