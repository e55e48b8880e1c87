-- Rounds: one number for each candidate, which says how many further sets granted it. In round t, the candidates with the number t are still on
-- the list. Each further restricting set moves the candidates that it grants on to the next round; the others stay behind, and are off the list.
use Rattle.std.specs.Prelude.{ℕ, zero, suc, ◌+◌, ◌%◌, Bool, cond, ◌&&◌, List, [], ◌∷◌, eqb, take}
use Rattle.spec_limits.specs.Limits.{max_records}
use Rattle.spec_octets.specs.Lists.{cons_if}
use Rattle.spec_octets.specs.Octets.{same, lowered}
use Rattle.spec_applicant.specs.Applicant.{Applicant}
use Rattle.list_places.specs.declared.TaggedSet.{TaggedSet}
use Rattle.list_places.specs.declared.Grant.{Grant}
use Rattle.list_places.specs.Grants.{grants_by, grant_octets}
use Rattle.list_places.specs.Candidates.{candidate_at}

-- The round after t. Rounds are kept in 16 bits.
abbrev pub next_round : ℕ → ℕ
next_round t = (t % 65536 + 1) % 65536

module _ (book names : List ℕ) where
  -- The names of those that are in round t, of n candidates from candidate i on, in lower case.
  abbrev pub kept_from : ℕ → ℕ → ℕ → List ℕ → List (List ℕ)
  kept_from t zero i rounds = []
  kept_from t (suc n) i [] = []
  kept_from t (suc n) i (r ∷ rounds) = cons_if (eqb r t) (lowered (candidate_at book names i)) (kept_from t n (suc i) rounds)

  -- The names of those that are in round t, of the first `count` candidates. Only the first `max_records` candidates count.
  unfoldable pub kept_names : ℕ → List ℕ → ℕ → List (List ℕ)
  kept_names count rounds t = kept_from t count 0 (take max_records rounds)

  -- The rounds after a move: of n candidates from candidate i on, those that are in round t and whose name passes the test p go to the next round.
  abbrev pub moved_from : (List ℕ → Bool) → ℕ → ℕ → ℕ → List ℕ → List ℕ
  moved_from p t zero i rounds = rounds
  moved_from p t (suc n) i [] = []
  moved_from p t (suc n) i (r ∷ rounds) =
      cond (eqb r t && p (lowered (candidate_at book names i))) (next_round t) r ∷ moved_from p t n (suc i) rounds

  -- The candidates of round t with the name x, letter case ignored, are moved on.
  unfoldable pub marked : ℕ → List ℕ → ℕ → List ℕ → List ℕ
  marked count x t rounds = moved_from (λ m. same m (lowered x)) t count 0 rounds

  -- The candidates of round t that a list of grants names are moved on.
  abbrev pub marked_by : ℕ → ℕ → List Grant → List ℕ → List ℕ
  marked_by count t [] rounds = rounds
  marked_by count t (g ∷ gs) rounds = marked_by count t gs (marked count (grant_octets book g) t rounds)

module _ (who : Applicant) (book names : List ℕ) where
  -- The candidates of round t that a tagged set grants to the applicant are moved on.
  unfoldable pub narrowed : List ℕ → List ℕ → TaggedSet → ℕ → ℕ → List ℕ → List ℕ
  narrowed table links s count t rounds = marked_by book names count t (grants_by who book table links s) rounds
