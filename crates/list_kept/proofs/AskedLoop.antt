-- Sets asked one after the other: a law for each way out. The questions that are left give the same answer in the end.
use Rattle.std.specs.Prelude.{Option, None, Some}
use Prim.Native.Nat.{ℕ, ◌+◌, ◌%◌, ◌≤◌, ◌<◌}
use native.Mathlib.Numerals.{add-one}
use mathlib.Core.Path.{◌≡◌, refl, ◌∙◌}
use mathlib.Core.List.{List}
use lib.ListN.{length, drop, get_or, drop_of_length-le}
use lib.Seq.{drop-cons}
use Rattle.spec_refusal.specs.declared.RecordNo.{RecordNo}
use Rattle.spec_applicant.specs.Applicant.{Applicant}
use Rattle.book_places.specs.declared.Governing.{Governing}
use Rattle.book_places.specs.declared.NameAuthorization.{NameAuthorization}
use Rattle.book_places.specs.declared.NameAuthorization.TheVariants.{Unrestricted, Forbidden, Governed, Unresolved}
use Rattle.book_places.specs.NameAuthorizations.{answer_to}
use Rattle.list_places.specs.declared.Permitted.{Permitted}
use Rattle.list_places.specs.Candidates.{collected}
use Rattle.list_places.specs.Rounds.{narrowed}
use Rattle.list_places.proofs.PermittedParts.{permitted_parts}
use Rattle.list_places.specs.PermittedBy.{PermittedIn, governed_in, answered_in, asked_in, all_asked}

module _ (who : Applicant) (book table links : List ℕ) where
  -- one more set that governs
  module _ (g : Governing) (p : Option Permitted) (names rounds : List ℕ) where
    abbrev kept : PermittedIn
    kept = governed_in who book table links g (record { answer = p; names = names; rounds = rounds })

    pub kept_parts :
        {q : Option Permitted} {names' rounds' : List ℕ} →
        governed_in who book table links g (record { answer = p; names = names; rounds = rounds }) ≡ record { answer = q; names = names'; rounds = rounds' } →
        record { answer : q ≡ kept.answer; names : names' ≡ kept.names; rounds : rounds' ≡ kept.rounds }
    kept_parts e = let parts = permitted_parts e in record { answer = parts.0; names = parts.1.0; rounds = parts.1.1 }

    pub first_governs :
        p ≡ None → (count : ℕ) (after : List ℕ) → count ≡ (collected who book table links (record { set = g.set.0; tag = g.tag }) names).count →
        after ≡ (collected who book table links (record { set = g.set.0; tag = g.tag }) names).names →
        governed_in who book table links g (record { answer = p; names = names; rounds = rounds })
        ≡ record { answer = Some (record { count = count; round = 0 }); names = after; rounds = rounds }
    unfolding governed_in
    first_governs e count after f h = rw (e, f, h)

    pub further_governs :
        (q : Permitted) → p ≡ Some q → (after : List ℕ) →
        after ≡ narrowed who book names table links (record { set = g.set.0; tag = g.tag }) q.count q.round rounds →
        governed_in who book table links g (record { answer = p; names = names; rounds = rounds })
        ≡ record { answer = Some (record { count = q.count; round = (q.round % 65536 + 1) % 65536 }); names = names; rounds = after }
    unfolding governed_in
    further_governs q e after f = rw (e, f)

  -- some questions, and the arrays before
  module _ (qs c d : List ℕ) where
    pub asked_parts :
        {q : Option Permitted} {names rounds : List ℕ} → all_asked who book table links qs c d ≡ record { answer = q; names = names; rounds = rounds } →
        record {
          answer : q ≡ (all_asked who book table links qs c d).answer;
          names : names ≡ (all_asked who book table links qs c d).names;
          rounds : rounds ≡ (all_asked who book table links qs c d).rounds;
        }
    asked_parts e = let parts = permitted_parts e in record { answer = parts.0; names = parts.1.0; rounds = parts.1.1 }

  module _ (numbers : List ℕ) where
    -- the arrays were c and d
    module _ (c d : List ℕ) where
      pub record Asking (names rounds : List ℕ) (p : Option Permitted) (i : ℕ) : Type 0 where
        pub left :
            all_asked who book table links numbers c d
            ≡ asked_in who book table links (drop i numbers) (record { answer = p; names = names; rounds = rounds })
        pub same_names : length names ≡ length c
        pub same_rounds : length rounds ≡ length d

      pub ask_start : Asking c d None 0
      unfolding all_asked
      ask_start = record { left = refl; same_names = refl; same_rounds = refl }

      module _ (names rounds : List ℕ) (p : Option Permitted) (i : ℕ) (m : Asking names rounds p i) where
        pub names_length : length names ≡ length c
        names_length = m.same_names

        pub rounds_length : length rounds ≡ length d
        rounds_length = m.same_rounds

        pub ask_done : length numbers ≤ i → all_asked who book table links numbers c d ≡ record { answer = p; names = names; rounds = rounds }
        ask_done h = m.left ∙ rw (drop_of_length-le numbers {i = i} h)

        -- a is the answer to the next question
        module _ (k : i < length numbers) (a : NameAuthorization) (e : a ≡ answer_to book table links (get_or numbers i 0)) where
          abbrev rest : PermittedIn → PermittedIn
          rest = asked_in who book table links (drop (i + 1) numbers)

          by_answer :
              all_asked who book table links numbers c d
              ≡ answered_in who book table links a (record { answer = p; names = names; rounds = rounds }) rest
          by_answer =
              m.left
              ∙ rw (add-one i, drop-cons numbers i 0 k, ← e)

          pub unrestricted_passed : a ≡ Unrestricted → Asking names rounds p (i + 1)
          unrestricted_passed f = record { left = by_answer ∙ rw f; same_names = m.same_names; same_rounds = m.same_rounds }

          pub forbidden_found :
              (r : RecordNo) → a ≡ Forbidden r →
              all_asked who book table links numbers c d
              ≡ record { answer = Some (record { count = 0; round = 0 }); names = names; rounds = rounds }
          forbidden_found r f = by_answer ∙ rw f

          pub unresolved_found :
              (r : RecordNo) → a ≡ Unresolved r →
              all_asked who book table links numbers c d
              ≡ record { answer = Some (record { count = 0; round = 0 }); names = names; rounds = rounds }
          unresolved_found r f = by_answer ∙ rw f

          pub governed_kept :
              (g : Governing) → a ≡ Governed g → (q : Permitted) (names' rounds' : List ℕ) →
              Some q ≡ (governed_in who book table links g (record { answer = p; names = names; rounds = rounds })).answer →
              names' ≡ (governed_in who book table links g (record { answer = p; names = names; rounds = rounds })).names →
              rounds' ≡ (governed_in who book table links g (record { answer = p; names = names; rounds = rounds })).rounds → length names' ≡ length names →
              length rounds' ≡ length rounds → Asking names' rounds' (Some q) (i + 1)
          governed_kept g f q names' rounds' x y z l o = record {
            left = by_answer ∙ rw (f, x, y, z);
            same_names = l ∙ m.same_names;
            same_rounds = o ∙ m.same_rounds;
          }
