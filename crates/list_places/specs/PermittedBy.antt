-- The issuers for all names of a request, by the answers to its questions (Questions.antt). The names that the first restricting set grants are the
-- candidates. After each further restricting set, only those candidates stay that it grants too.
use Rattle.std.specs.Prelude.{ℕ, List, [], ◌∷◌, take, replicate, Option, None, Some}
use Rattle.spec_limits.specs.Limits.{max_names}
use Rattle.spec_applicant.specs.Applicant.{Applicant}
use Rattle.spec_rule.specs.IssuerLists.{Issuers, anyone, listed}
use Rattle.book_places.specs.declared.Governing.{Governing}
use Rattle.book_places.specs.declared.NameAuthorization.{NameAuthorization}
use Rattle.book_places.specs.declared.NameAuthorization.TheVariants.{Unrestricted, Forbidden, Governed, Unresolved}
use Rattle.book_places.specs.NameAuthorizations.{answer_to}
use Rattle.list_places.specs.declared.TaggedSet.{TaggedSet}
use Rattle.list_places.specs.declared.Permitted.{Permitted}
use Rattle.list_places.specs.Candidates.{collected}
use Rattle.list_places.specs.Rounds.{next_round, kept_names, narrowed}
use Rattle.list_places.specs.Questions.{questions, NotedQuestions, noted, once}

-- The answer so far, which is none while no set restricts, and the two arrays: the candidates and their rounds.
pub record PermittedIn : Type 0 where
  pub answer : Option Permitted
  pub names : List ℕ
  pub rounds : List ℕ

-- No set restricts yet: anyone may issue.
abbrev pub anyone_in : List ℕ → List ℕ → PermittedIn
anyone_in names rounds = record { answer = None; names = names; rounds = rounds }

-- Nobody may issue.
abbrev pub nobody_in : List ℕ → List ℕ → PermittedIn
nobody_in names rounds = record { answer = Some (record { count = 0; round = 0 }); names = names; rounds = rounds }

module _ (who : Applicant) (book table links : List ℕ) where
  -- The first restricting set: what it grants becomes the candidates.
  abbrev pub collected_in : TaggedSet → PermittedIn → PermittedIn
  collected_in s p = record {
    answer = Some (record { count = (collected who book table links s p.names).count; round = 0 });
    names = (collected who book table links s p.names).names;
    rounds = p.rounds;
  }

  -- A further restricting set: the candidates so far that it grants go on to the next round.
  abbrev pub narrowed_in : TaggedSet → Permitted → PermittedIn → PermittedIn
  narrowed_in s q p = record {
    answer = Some (record { count = q.count; round = next_round q.round });
    names = p.names;
    rounds = narrowed who book p.names table links s q.count q.round p.rounds;
  }

  -- The governing records as a tagged set.
  abbrev pub governing_set : Governing → TaggedSet
  governing_set g = record { set = g.set.0; tag = g.tag }

  -- One more restricting set, the first or a further one.
  abbrev pub governed_by : Option Permitted → Governing → PermittedIn → PermittedIn
  governed_by None g p = collected_in (governing_set g) p
  governed_by (Some q) g p = narrowed_in (governing_set g) q p

  unfoldable pub governed_in : Governing → PermittedIn → PermittedIn
  governed_in g p = governed_by p.answer g p

  -- One answer is taken into account, then the rest. If a set forbids, nobody may issue, whatever the rest says.
  abbrev pub answered_in : NameAuthorization → PermittedIn → (PermittedIn → PermittedIn) → PermittedIn
  answered_in Unrestricted p rest = rest p
  answered_in (Forbidden r) p rest = nobody_in p.names p.rounds
  answered_in (Unresolved r) p rest = nobody_in p.names p.rounds
  answered_in (Governed g) p rest = rest (governed_in g p)

  -- The answers to a list of questions are taken into account, one after the other.
  abbrev pub asked_in : List ℕ → PermittedIn → PermittedIn
  asked_in [] p = p
  asked_in (q ∷ qs) p = answered_in (answer_to book table links q) p (asked_in qs)

  -- The same from the start, when anyone may issue.
  unfoldable pub all_asked : List ℕ → List ℕ → List ℕ → PermittedIn
  all_asked qs names rounds = asked_in qs (anyone_in names rounds)

  -- Each question that was noted is asked once. If the questions are not known, nobody may issue.
  abbrev pub by_noted : Option ℕ → List ℕ → List ℕ → List ℕ → PermittedIn
  by_noted None numbers names rounds = nobody_in names rounds
  by_noted (Some n) numbers names rounds = all_asked (once (take n numbers)) names rounds

-- The questions of a request, noted by a table of the book and its chains.
unfoldable pub noted_in : List ℕ → List ℕ → List ℕ → List ℕ → List ℕ → List ℕ → NotedQuestions
noted_in request book table links heads onward = noted (replicate max_names 0) (questions request book table links heads onward)

-- The issuers for all names of a request, for the applicant, and the two arrays.
unfoldable pub permitted_in : Applicant → List ℕ → List ℕ → List ℕ → List ℕ → List ℕ → List ℕ → List ℕ → List ℕ → PermittedIn
permitted_in who request book table links heads onward names rounds =
    by_noted who book table links (noted_in request book table links heads onward).answer (noted_in request book table links heads onward).numbers names rounds

-- The list of issuers that such an answer stands for, or anyone.
abbrev pub issuers_by : List ℕ → List ℕ → List ℕ → Option Permitted → Issuers
issuers_by book names rounds None = anyone
issuers_by book names rounds (Some q) = listed (kept_names book names q.count rounds q.round)

abbrev pub issuers_in : List ℕ → PermittedIn → Issuers
issuers_in book p = issuers_by book p.names p.rounds p.answer
