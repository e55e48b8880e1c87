-- The candidates of the first set that governs, narrowed by each further one, are the issuers by the answers to all questions.
use Rattle.std.specs.Prelude.{Option, None, Some}
use Prim.Native.Nat.{ℕ, zero, suc, ◌+◌, ◌*◌, ◌≤◌}
use native.Mathlib.Omega.{arith}
use mathlib.Core.Path.{◌≡◌, refl, sym, ap, ◌∙◌}
use mathlib.Core.Bool.{Bool, true, false, cond, ◌&&◌}
use mathlib.Core.List.{List, [], ◌∷◌, map}
use lib.Dec.{eqb}
use lib.ListN.{length, take, replicate, length-replicate}
use lib.Seq.{take_all}
use Rattle.spec_limits.specs.Limits.{max_book_octets, max_records}
use Rattle.spec_octets.specs.Lists.{all, any, cons_if, select, All, all_nil, all_cons}
use Rattle.spec_octets.specs.Octets.{same, lowered}
use Rattle.spec_octets.proofs.ListLaws.{All-imp, All-map}
use Rattle.spec_octets.proofs.SelectTests.{select_twice}
use Rattle.spec_octets.proofs.SmallLetters.{lowered_twice}
use Rattle.spec_applicant.specs.Applicant.{Applicant}
use Rattle.spec_rule.specs.Authorizations.{Authorization, granted, permits}
use Rattle.spec_rule.specs.IssuerLists.{listed, distinct}
use Rattle.book_places.specs.declared.Governing.{Governing}
use Rattle.book_places.specs.declared.NameAuthorization.{NameAuthorization}
use Rattle.book_places.specs.declared.NameAuthorization.TheVariants.{Unrestricted, Forbidden, Governed, Unresolved}
use Rattle.book_places.specs.NameAuthorizations.{answer_to, set_grantees, meaning}
use Rattle.list_places.specs.declared.TaggedSet.{TaggedSet}
use Rattle.list_places.specs.declared.Grant.{Grant}
use Rattle.list_places.specs.declared.Permitted.{Permitted}
use Rattle.list_places.specs.Grants.{grants_by, grant_octets}
use Rattle.list_places.specs.Candidates.{candidate_at, candidates_from, candidates, is_candidate, Candidates, pushed, pushed_once, collected}
use Rattle.list_places.specs.Rounds.{next_round, kept_from, kept_names, narrowed}
use Rattle.list_places.specs.PermittedBy.{PermittedIn, governing_set, governed_by, governed_in, answered_in, asked_in, issuers_by, issuers_in}
use Rattle.list_places.proofs.CandidateLaws.{pushed_most}
use Rattle.list_places.proofs.GrantNames.{grants_by_offset}
use Rattle.list_places.proofs.CollectedNames.{few_grants, collected_by_offset}
use Rattle.list_places.proofs.NarrowedNames.{narrowed_by_offset}
use Rattle.list_places.proofs.LeftIssuers.{select_alike, left, left_end, left_unrestricted, left_forbidden, left_unresolved, Lower}
use Rattle.list_places.proofs.AskedNames.{answered}

module _ (book names : List ℕ) where
  -- all candidates are in round 0 at first
  round_0 : (n i k : ℕ) → n ≤ k → kept_from book names 0 n i (replicate k 0) ≡ candidates_from book names n i
  round_0 zero i k h = refl
  round_0 (suc n) i zero h = absurd (omega arith)
  round_0 (suc n) i (suc k) h = rw (round_0 n (suc i) k (omega arith))

  -- the names on the list are in lower case
  lower_from : (t n i : ℕ) (rounds : List ℕ) → All (λ m. lowered m ≡ m) (kept_from book names t n i rounds)
  lower_from t zero i rounds = all_nil
  lower_from t (suc n) i [] = all_nil
  lower_from t (suc n) i (r ∷ rounds) = go (eqb r t) (lower_from t n (suc i) rounds)
    where
      go :
          (s : Bool) → All (λ m. lowered m ≡ m) (kept_from book names t n (suc i) rounds) →
          All (λ m. lowered m ≡ m) (cons_if s (lowered (candidate_at book names i)) (kept_from book names t n (suc i) rounds))
      go true rest = all_cons (lowered_twice (candidate_at book names i)) rest
      go false rest = rest

  kept_lower : (count : ℕ) (rounds : List ℕ) (t : ℕ) → All (λ m. lowered m ≡ m) (kept_names book names count rounds t)
  unfolding kept_names
  kept_lower count rounds t = lower_from t count 0 (take max_records rounds)

  -- no more candidates than grants
  pushed_few : (gs : List Grant) (c : Candidates) → (pushed_once book gs c).count ≤ c.count + length gs
  pushed_few [] c = omega arith
  pushed_few (g ∷ gs) c = go (is_candidate book c.names c.count (grant_octets book g)) (pushed_few gs)
    where
      go :
          (t : Bool) → ((d : Candidates) → (pushed_once book gs d).count ≤ d.count + length gs) →
          (pushed_once book gs (cond t c (pushed c g))).count ≤ c.count + suc (length gs)
      go true rest = omega (arith, rest c)
      go false rest = omega (arith, rest (pushed c g), pushed_most c g)

pub all_0 : (k : ℕ) → All (λ r. r ≤ 0) (replicate k 0)
all_0 zero = all_nil
all_0 (suc k) = all_cons {x = 0} (omega arith) (all_0 k)

module _ (who : Applicant) (book table links : List ℕ) (small : length book ≤ max_book_octets) where
  abbrev grantees : TaggedSet → List (List ℕ)
  grantees s = set_grantees who book table links s.tag s.set

  lower_grantees : (s : TaggedSet) → All (λ m. lowered m ≡ m) (grantees s)
  lower_grantees s =
      rw (← grants_by_offset who book table links small s)
      (All-map {P = λ g. Unit} (λ g. lowered (grant_octets book g)) (λ g h. lowered_twice (grant_octets book g)) (anything (grants_by who book table links s)))
    where
      anything : (gs : List Grant) → All (λ g. Unit) gs
      anything [] = all_nil
      anything (g ∷ gs) = all_cons _ (anything gs)

  pub answers_lower : (q : ℕ) → Lower (answered who book table links q)
  answers_lower q = go (answer_to book table links q)
    where
      go : (a : NameAuthorization) → Lower (meaning who book table links a)
      go Unrestricted = _
      go (Forbidden r) = _
      go (Unresolved r) = _
      go (Governed g) = lower_grantees (governing_set who book table links g)

  collected_few : (s : TaggedSet) (names : List ℕ) → (collected who book table links s names).count ≤ length links
  unfolding collected
  collected_few s names =
      omega (arith, pushed_few book names (grants_by who book table links s) (record { count = 0; names = names }), few_grants who book table links s s.set)

  -- with rounds for so many candidates
  module _ (size : ℕ) (places : length links ≤ size) (most : size ≤ max_records) where
    -- the round of the answer so far
    abbrev pub round_of : Option Permitted → ℕ
    round_of None = 0
    round_of (Some q) = q.round

    -- what is known of the answer so far, with k questions left
    pub record Sound (p : PermittedIn) (k : ℕ) : Type 0 where
      pub fresh : p.answer ≡ None → p.rounds ≡ replicate size 0
      pub room : p.answer ≡ None → 2 * length links ≤ length p.names
      pub within : All (λ r. r ≤ round_of p.answer) p.rounds
      pub few : round_of p.answer + k ≤ 65535

    all_kept :
        (s : TaggedSet) (names : List ℕ) → 2 * length links ≤ length names → (c : Candidates) → c ≡ collected who book table links s names →
        kept_names book c.names c.count (replicate size 0) 0 ≡ distinct (grantees s)
    unfolding kept_names candidates
    all_kept s names room c e =
        ap (kept_from book c.names 0 c.count 0) (take_all max_records (replicate size 0) (omega (arith, length-replicate {A = ℕ} size 0)))
        ∙ round_0 book c.names c.count 0 size (rw e (omega (arith, collected_few s names)))
        ∙ collected_by_offset who book table links names small room s c e

    -- one set that governs
    module _ (g : Governing) (p : PermittedIn) (k : ℕ) (h : Sound p (suc k)) where
      abbrev set : TaggedSet
      set = governing_set who book table links g

      -- the candidates so far
      module _ (q : Permitted) (e : p.answer ≡ Some q) where
        within : All (λ r. r ≤ q.round) p.rounds
        within = let w : All (λ r. r ≤ round_of p.answer) p.rounds = h.within in rw e at w

        few : q.round + suc k ≤ 65535
        few = let w : round_of p.answer + suc k ≤ 65535 = h.few in rw e at w

        next : next_round q.round ≡ suc q.round
        next = omega (arith, few)

        further :
            (kept_names book p.names q.count (narrowed who book p.names table links set q.count q.round p.rounds) (suc q.round)
            ≡ select (λ m. any (same m) (grantees set)) (kept_names book p.names q.count p.rounds q.round))
            × All (λ r. r ≤ suc q.round) (narrowed who book p.names table links set q.count q.round p.rounds)
        further = narrowed_by_offset who book table links p.names p.rounds small q.count q.round (omega (arith, few)) within set

      pub governed_sound : Sound (governed_in who book table links g p) k
      unfolding governed_in
      governed_sound = go p.answer refl
        where
          go : (a : Option Permitted) → p.answer ≡ a → Sound (governed_by who book table links a g p) k
          go (Some q) e = record {
            fresh = λ f. let z : ◌≡◌ {A = ℕ} 0 1 = cc in absurd (omega arith);
            room = λ f. let z : ◌≡◌ {A = ℕ} 0 1 = cc in absurd (omega arith);
            within = rw (next q e) (further q e).1;
            few = omega (arith, few q e, next q e);
          }
          go None e = record {
            fresh = λ f. let z : ◌≡◌ {A = ℕ} 0 1 = cc in absurd (omega arith);
            room = λ f. let z : ◌≡◌ {A = ℕ} 0 1 = cc in absurd (omega arith);
            within = rw (h.fresh e) (all_0 size);
            few = omega (arith, h.few);
          }

      pub governed_issuers :
          (ys : List Authorization) →
          left (issuers_in book (governed_in who book table links g p)) ys ≡ left (issuers_in book p) (meaning who book table links (Governed g) ∷ ys)
      unfolding governed_in
      governed_issuers ys = go p.answer refl
        where
          kept : Permitted → List (List ℕ)
          kept q = kept_names book p.names q.count p.rounds q.round

          go :
              (a : Option Permitted) → p.answer ≡ a →
              left (issuers_in book (governed_by who book table links a g p)) ys
              ≡ left (issuers_by book p.names p.rounds a) (granted g.first.0 (grantees set) ∷ ys)
          go (Some q) e =
              rw (next q e, (further q e).0)
              (ap listed
              (select_twice (λ m. any (same m) (grantees set)) (λ m. all (permits m) ys) (kept q)
              ∙ select_alike
              (λ m. any (same m) (grantees set) && all (permits m) ys)
              (λ m. any (same (lowered m)) (grantees set) && all (permits m) ys)
              (All-imp (λ m j. rw j) (kept_lower book p.names q.count p.rounds q.round))))
          go None e =
              ap (λ ns. listed (select (λ m. all (permits m) ys) ns))
              (ap (λ rs. kept_names book (collected who book table links set p.names).names (collected who book table links set p.names).count rs 0) (h.fresh e)
              ∙ all_kept set p.names (h.room e) (collected who book table links set p.names) refl)

    pub asked_issuers :
        (qs : List ℕ) (p : PermittedIn) → Sound p (length qs) →
        issuers_in book (asked_in who book table links qs p) ≡ left (issuers_in book p) (map (answered who book table links) qs)
    unfolding kept_names
    asked_issuers [] p h = sym (left_end (issuers_in book p))
    asked_issuers (q ∷ qs) p h = go (answer_to book table links q) (asked_issuers qs)
      where
        go :
            (a : NameAuthorization) →
            ((r : PermittedIn) → Sound r (length qs) → issuers_in book (asked_in who book table links qs r) ≡ left (issuers_in book r) (map (answered who book table links) qs)) →
            issuers_in book (answered_in who book table links a p (asked_in who book table links qs)) ≡ left (issuers_in book p) (meaning who book table links a ∷ map (answered who book table links) qs)
        go Unrestricted rest =
            rest p (record { fresh = h.fresh; room = h.room; within = h.within; few = omega (arith, h.few) })
            ∙ sym (left_unrestricted (issuers_in book p) (map (answered who book table links) qs))
        go (Forbidden r) rest = sym (left_forbidden (issuers_in book p) r.0 (map (answered who book table links) qs))
        go (Unresolved r) rest = sym (left_unresolved (issuers_in book p) r.0 (map (answered who book table links) qs))
        go (Governed g) rest =
            rest (governed_in who book table links g p) (governed_sound g p (length qs) h)
            ∙ governed_issuers g p (length qs) h (map (answered who book table links) qs)
