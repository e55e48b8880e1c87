-- Candidates: issuer names that may get onto the list. The array `names` has two numbers for each: its offset in the book and its length. Reading
-- past the end of the array gives 0.
use Rattle.std.specs.Prelude.{ℕ, zero, suc, ◌+◌, ◌*◌, Bool, cond, List, [], ◌∷◌, ltb, length, get_or, set}
use Rattle.spec_octets.specs.Lists.{any}
use Rattle.spec_octets.specs.Octets.{same, lowered}
use Rattle.spec_applicant.specs.Applicant.{Applicant}
use Rattle.book_places.specs.Table.{octets_at}
use Rattle.list_places.specs.declared.TaggedSet.{TaggedSet}
use Rattle.list_places.specs.declared.Grant.{Grant}
use Rattle.list_places.specs.Grants.{grants_by, grant_octets}

-- The name of candidate i, as the book spells it.
unfoldable pub candidate_at : List ℕ → List ℕ → ℕ → List ℕ
candidate_at book names i = octets_at book (get_or names (2 * i) 0) (get_or names (2 * i + 1) 0)

-- The names of n candidates, from candidate i on, in lower case.
abbrev pub candidates_from : List ℕ → List ℕ → ℕ → ℕ → List (List ℕ)
candidates_from book names zero i = []
candidates_from book names (suc n) i = lowered (candidate_at book names i) ∷ candidates_from book names n (suc i)

-- The names of the first `count` candidates.
unfoldable pub candidates : List ℕ → List ℕ → ℕ → List (List ℕ)
candidates book names count = candidates_from book names count 0

-- Whether a name is one of them, letter case ignored.
unfoldable pub is_candidate : List ℕ → List ℕ → ℕ → List ℕ → Bool
is_candidate book names count x = any (same (lowered x)) (candidates book names count)

-- How many candidates there are, and the array with their two numbers each.
pub record Candidates : Type 0 where
  pub count : ℕ
  pub names : List ℕ

-- One more candidate is added, if the array has room for its two numbers.
unfoldable pub pushed : Candidates → Grant → Candidates
pushed c g =
    cond (ltb (2 * c.count + 1) (length c.names))
    (record { count = suc c.count; names = set (set c.names (2 * c.count) g.at) (2 * c.count + 1) g.octets }) c

-- The names of a list of grants are added one after the other, but for names that are candidates already.
abbrev pub pushed_once : List ℕ → List Grant → Candidates → Candidates
pushed_once book [] c = c
pushed_once book (g ∷ gs) c = pushed_once book gs (cond (is_candidate book c.names c.count (grant_octets book g)) c (pushed c g))

-- The names that the records of a tagged set grant to the applicant become the candidates.
unfoldable pub collected : Applicant → List ℕ → List ℕ → List ℕ → TaggedSet → List ℕ → Candidates
collected who book table links s names = pushed_once book (grants_by who book table links s) (record { count = 0; names = names })
