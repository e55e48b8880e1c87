-- The candidates collected are the issuers that a tagged set grants, each once.
use Rattle.read_value.specs.declared.NameAt.{NameAt}
use Rattle.std.specs.Prelude.{Option, Some, None}
use Prim.Native.Nat.{ℕ, zero, suc, ◌+◌, ◌*◌, ◌≤◌, ◌<◌}
use native.Mathlib.Omega.{arith}
use mathlib.Core.Path.{◌≡◌, refl, ◌∙◌}
use mathlib.Core.Bool.{Bool, true, false, cond}
use mathlib.Core.List.{List, [], ◌∷◌, ◌++◌, map}
use lib.Dec.{ltb}
use lib.ListN.{length}
use Rattle.spec_octets.specs.Lists.{cons_if, select}
use Rattle.spec_octets.specs.Octets.{lowered}
use Rattle.spec_record.specs.declared.PropertyTag.{PropertyTag}
use Rattle.spec_applicant.specs.Applicant.{Applicant}
use Rattle.read_grantee.specs.Places.{grantee_at}
use Rattle.book_places.specs.Table.{cell, data_at, owner_at}
use Rattle.book_places.specs.Chains.{behind, along, chain_from}
use Rattle.book_places.specs.NameAuthorizations.{set_grantees}
use Rattle.book_places.specs.Sets.{is_owned, owned_of, data_has_tag}
use Rattle.list_places.specs.declared.TaggedSet.{TaggedSet}
use Rattle.list_places.specs.declared.Grant.{Grant}
use Rattle.list_places.specs.Grants.{grant_read, grants_of, grants_from, grants_by, grant_octets}
use Rattle.list_places.specs.Candidates.{candidates, is_candidate, Candidates, pushed, pushed_once, collected}
use Rattle.list_places.specs.Theorems.{CollectedByOffset}
use Rattle.list_places.proofs.Joining.{joined, joined_distinct}
use Rattle.list_places.proofs.GrantNames.{grants_by_offset}
use Rattle.list_places.proofs.CandidateLaws.{pushed_count, pushed_length, pushed_names}

select_fewer : {A : Type 0} (p : A → Bool) (xs : List A) → length (select p xs) ≤ length xs
select_fewer p [] = omega arith
select_fewer p (x ∷ xs) = go (p x) (select_fewer p xs)
  where
    go : (t : Bool) → length (select p xs) ≤ length xs → length (cons_if t x (select p xs)) ≤ suc (length xs)
    go true h = omega arith
    go false h = omega arith

along_fewer : (n : ℕ) (links : List ℕ) (i : ℕ) → length (along n links i) ≤ n
along_fewer zero links i = omega arith
along_fewer (suc n) links i = go (ltb i (length links)) (along_fewer n links (behind links i))
  where
    go : (t : Bool) → length (along n links (behind links i)) ≤ n → length (cond t (i ∷ along n links (behind links i)) []) ≤ suc n
    go true h = omega arith
    go false h = omega arith

module _ (who : Applicant) (book table : List ℕ) (tag : PropertyTag) where
  grants_fewer : (is : List ℕ) → length (grants_of who book table tag is) ≤ length is
  grants_fewer [] = omega arith
  grants_fewer (i ∷ is) = go (data_has_tag tag (data_at book table i)) (grantee_at who (data_at book table i)) (grants_fewer is)
    where
      go :
          (t : Bool) (o : Option NameAt) → length (grants_of who book table tag is) ≤ length is →
          length (cond t (grant_read i (cell table i 2) o) [] ++ grants_of who book table tag is) ≤ suc (length is)
      go true None h = omega arith
      go true (Some n) h = omega arith
      go false o h = omega arith

-- at most one grant for each link
pub few_grants : (who : Applicant) (book table links : List ℕ) (s : TaggedSet) (i : ℕ) → length (grants_from who book table links s i) ≤ length links
unfolding grants_from owned_of chain_from
few_grants who book table links s i =
    omega (
      arith,
      grants_fewer who book table s.tag (select (is_owned book table (owner_at book table s.set)) (along (length links) links i)),
      select_fewer (is_owned book table (owner_at book table s.set)) (along (length links) links i),
      along_fewer (length links) links i,
    )

module _ (book : List ℕ) where
  abbrev named : List Grant → List (List ℕ)
  named gs = map (λ g. lowered (grant_octets book g)) gs

  -- the names of the grants left, joined to those so far
  joined_names :
      (gs : List Grant) (c : Candidates) → 2 * (c.count + length gs) ≤ length c.names →
      candidates book (pushed_once book gs c).names (pushed_once book gs c).count ≡ joined (candidates book c.names c.count) (named gs)
  unfolding is_candidate
  joined_names [] c h = refl
  joined_names (g ∷ gs) c h = go (is_candidate book c.names c.count (grant_octets book g)) (joined_names gs)
    where
      go :
          (t : Bool) →
          ((d : Candidates) → 2 * (d.count + length gs) ≤ length d.names →
          candidates book (pushed_once book gs d).names (pushed_once book gs d).count ≡ joined (candidates book d.names d.count) (named gs)) →
          candidates book (pushed_once book gs (cond t c (pushed c g))).names (pushed_once book gs (cond t c (pushed c g))).count
          ≡ joined
          (cond t (candidates book c.names c.count) (candidates book c.names c.count ++ (lowered (grant_octets book g) ∷ [])))
          (named gs)
      go true rest = rest c (omega arith)
      go false rest =
          let room : 2 * c.count + 1 < length c.names = omega arith in
          rest (pushed c g) (omega (arith, pushed_count c g room, pushed_length c g room))
          ∙ rw (pushed_names c g room book)

pub collected_by_offset : CollectedByOffset
unfolding collected candidates
collected_by_offset who book table links names small room s c e =
    rw e
    (joined_names book (grants_by who book table links s) (record { count = 0; names = names }) (omega (arith, few_grants who book table links s s.set))
    ∙ rw (grants_by_offset who book table links small s) (joined_distinct (set_grantees who book table links s.tag s.set)))
