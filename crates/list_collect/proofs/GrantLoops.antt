-- The loops over the grants of a tagged set: those that are left give the same candidates, or the same rounds, in the end.
use Rattle.std.specs.Prelude.{Option, Some, None}
use Prim.Native.Nat.{ℕ}
use mathlib.Core.Path.{◌≡◌, refl, sym, ap, ◌∙◌}
use mathlib.Core.Bool.{Bool, true, false, cond}
use mathlib.Core.List.{List}
use lib.ListN.{length}
use Rattle.spec_applicant.specs.Applicant.{Applicant}
use Rattle.book_places.specs.Table.{octets_at}
use Rattle.book_places.specs.Chains.{behind}
use Rattle.list_places.specs.declared.TaggedSet.{TaggedSet}
use Rattle.list_places.specs.declared.Grant.{Grant}
use Rattle.list_places.specs.Grants.{grants_from, first_grant}
use Rattle.list_places.specs.Candidates.{is_candidate, Candidates, pushed, pushed_once, collected}
use Rattle.list_places.specs.Rounds.{marked, marked_by, narrowed}
use Rattle.list_places.proofs.GrantWalk.{grants_over, grants_on}

module _ (who : Applicant) (book table links : List ℕ) (s : TaggedSet) where
  abbrev grants : ℕ → List Grant
  grants i = grants_from who book table links s i

  -- the array was d
  pub record Collecting (d names : List ℕ) (count at : ℕ) : Type 0 where
    pub left : collected who book table links s d ≡ pushed_once book (grants at) (record { count = count; names = names })
    pub same_length : length names ≡ length d

  pub collect_start : (d : List ℕ) → Collecting d d 0 s.set
  unfolding collected
  collect_start d = record { left = refl; same_length = refl }

  module _ (d names : List ℕ) (count at : ℕ) (m : Collecting d names count at) where
    pub collect_length : length names ≡ length d
    collect_length = m.same_length

    -- o is the answer of next_grant
    module _ (o : Option Grant) (f : o ≡ first_grant (grants_from who book table links s at)) where
      module _ (e : o ≡ None) where
        all_there : collected who book table links s d ≡ record { count = count; names = names }
        all_there = m.left ∙ rw (grants_over who book table links s at o f e)

        pub all_counted : count ≡ (collected who book table links s d).count
        all_counted = sym (ap (λ (c : Candidates). c.count) all_there)

        pub all_collected : names ≡ (collected who book table links s d).names
        all_collected = sym (ap (λ (c : Candidates). c.names) all_there)

      -- the grant g; its name is x
      module _ (g : Grant) (e : o ≡ Some g) (j : ℕ) (b : j ≡ behind links g.rr) (x : List ℕ) (h : x ≡ octets_at book g.at g.octets) (t : Bool)
          (k : t ≡ is_candidate book names count x) where
        next :
            collected who book table links s d
            ≡ pushed_once book (grants j) (cond t (record { count = count; names = names }) (pushed (record { count = count; names = names }) g))
        next = m.left ∙ rw (grants_on who book table links s at o f g e, b, k, h)

        pub known : t ≡ true → Collecting d names count j
        known q = record { left = next ∙ rw q; same_length = m.same_length }

        pub new :
            t ≡ false → (names' : List ℕ) (count' : ℕ) → count' ≡ (pushed (record { count = count; names = names }) g).count →
            names' ≡ (pushed (record { count = count; names = names }) g).names → length names' ≡ length names → Collecting d names' count' j
        new q names' count' u v l = record { left = next ∙ rw (q, u, v); same_length = l ∙ m.same_length }

  -- the rounds were d
  module _ (names : List ℕ) (count t : ℕ) where
    pub record Narrowing (d rounds : List ℕ) (at : ℕ) : Type 0 where
      pub left : narrowed who book names table links s count t d ≡ marked_by book names count t (grants at) rounds
      pub same_length : length rounds ≡ length d

    pub narrow_start : (d : List ℕ) → Narrowing d d s.set
    unfolding narrowed
    narrow_start d = record { left = refl; same_length = refl }

    module _ (d rounds : List ℕ) (at : ℕ) (m : Narrowing d rounds at) where
      pub narrow_length : length rounds ≡ length d
      narrow_length = m.same_length

      module _ (o : Option Grant) (f : o ≡ first_grant (grants_from who book table links s at)) where
        pub all_narrowed : o ≡ None → rounds ≡ narrowed who book names table links s count t d
        all_narrowed e = sym (m.left ∙ rw (grants_over who book table links s at o f e))

        pub one_marked :
            (g : Grant) → o ≡ Some g → (j : ℕ) → j ≡ behind links g.rr → (x : List ℕ) → x ≡ octets_at book g.at g.octets →
            (after : List ℕ) → after ≡ marked book names count x t rounds → length after ≡ length rounds → Narrowing d after j
        one_marked g e j b x h after q l = record {
          left = m.left ∙ rw (grants_on who book table links s at o f g e, b, q, h);
          same_length = l ∙ m.same_length;
        }
