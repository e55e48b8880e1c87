-- What a caller who reads the list back from the buffer learns: the issuers of the rule, and nothing else.
use Prim.Native.Nat.{ℕ, ◌≤◌}
use native.Mathlib.Omega.{arith}
use mathlib.Core.Path.{◌≡◌, refl, sym, ◌∙◌}
use mathlib.Core.Logic.{◌⊎◌, inl, inr}
use mathlib.Core.List.{List, Memᴰ}
use lib.ListN.{length, take, drop, length-append, length-drop}
use lib.Seq.{take_at, drop_at}
use Rattle.spec_refusal.specs.declared.Refusal.{Refusal}
use Rattle.spec_octets.specs.Octets.{lowered}
use Rattle.spec_octets.specs.Items.{whole, items}
use Rattle.spec_applicant.specs.Applicant.{Applicant}
use Rattle.spec_rule.specs.declared.PermittedIssuers.TheVariants.{Anyone, Listed, Refused as ListRefused}
use Rattle.spec_rule.specs.IssuerLists.{Issuers, anyone, listed, entries, read_entry}
use Rattle.spec_rule.specs.Calls.{Listing, written}
use Rattle.spec_rule.specs.Theorems.{PermittedIssuersAre, ReadsBack, ListsNames, ListingTells}
use Rattle.spec_rule.proofs.IssuerListLaws.{listed≢anyone, one_list}
use Rattle.spec_rule.proofs.BufferLaws.{entries_read_back, entries_length}

-- which of the two answers it is
pub anyone≢listed : {count octets : ℕ} → Anyone ≡ Listed count octets → ⊥
anyone≢listed e = let z : ◌≡◌ {A = ℕ} 0 1 = cc in omega arith

pub anyone≢refused : {r : Refusal} → Anyone ≡ ListRefused r → ⊥
anyone≢refused e = let z : ◌≡◌ {A = ℕ} 0 1 = cc in omega arith

pub listed≢refused : {count octets : ℕ} {r : Refusal} → Listed count octets ≡ ListRefused r → ⊥
listed≢refused e = let z : ◌≡◌ {A = ℕ} 0 1 = cc in omega arith

pub one_count : {a b c d : ℕ} → Listed a b ≡ Listed c d → a ≡ c
one_count e = cc

pub one_length : {a b c d : ℕ} → Listed a b ≡ Listed c d → b ≡ d
one_length e = cc

one_reading : {ms ns : List (List ℕ)} → whole ms ≡ whole ns → ms ≡ ns
one_reading e = cc

-- a list in the buffer is read back, and read as no other
module _ (ns : List (List ℕ)) (buffer : List ℕ) where
  front_read : items read_entry (length ns) (take (length (entries ns)) (written (listed ns) buffer).buffer) ≡ whole ns
  front_read = rw (take_at (entries ns) (drop (length (entries ns)) buffer) (length (entries ns)) refl) (entries_read_back ns)

  written_read : ReadsBack (length ns) (length (entries ns)) (written (listed ns) buffer).buffer ns
  written_read = (rw length-append (omega arith), refl, front_read)

  read_once : (ms : List (List ℕ)) → ListsNames (written (listed ns) buffer) ms → ns ≡ ms
  read_once ms (count, octets, e, (fits, l, reads)) =
      one_reading (sym front_read ∙ rw (← one_count e, ← one_length e) at reads)

-- the list has room in the buffer
abbrev pub HasRoom : Issuers → List ℕ → Type 0
HasRoom anyone buffer = Unit {0}
HasRoom (listed ns) buffer = length (entries ns) ≤ length buffer

module _ (request : List ℕ) (who : Applicant) (book buffer : List ℕ) where
  pub written_tells :
      (i : Issuers) → PermittedIssuersAre request who book i → HasRoom i buffer → ListingTells request who book buffer (written i buffer)
  written_tells anyone are room = record {
    anyone_exactly = (λ e. are.anyone_exactly.0 refl, λ h. refl);
    permitted_exactly = λ d w. (λ j. inl refl, λ o. (are.permitted_exactly d w).1 (inl refl));
    answered = inl refl;
    readable = λ count octets e. absurd (anyone≢listed e);
    counted = λ ns h. absurd (unlisted ns h);
    well_formed = λ ns h. absurd (unlisted ns h);
    none_twice = λ ns h. absurd (unlisted ns h);
    in_order = λ ns h. absurd (unlisted ns h);
    length_stays = refl;
    rest_stays = λ count octets e. refl;
    nothing_written = λ e. refl;
  }
    where
      unlisted : (ns : List (List ℕ)) → ListsNames (written anyone buffer) ns → ⊥
      unlisted ns (count, octets, e, h) = anyone≢listed e
  written_tells (listed ns) are room = record {
    anyone_exactly = (λ e. absurd (anyone≢listed (sym e)), λ h. absurd (listed≢anyone (are.anyone_exactly.1 h)));
    permitted_exactly = λ d w. (λ j. read d ((are.permitted_exactly d w).0 j), λ h. (are.permitted_exactly d w).1 (inr (ns, refl, unread d h)));
    answered = inr (length ns, length (entries ns), refl);
    readable = λ count octets e. (ns, rw (← one_count e, ← one_length e) (written_read ns buffer));
    counted = λ ms h. rw (← read_once ns buffer ms h, entries_length ns) refl;
    well_formed = λ ms h. rw (← read_once ns buffer ms h) (are.well_formed ns refl);
    none_twice = λ ms h. rw (← read_once ns buffer ms h) (are.none_twice ns refl);
    in_order = λ ms h. rw (← read_once ns buffer ms h) (are.in_order ns refl);
    length_stays = rw length-append (omega (arith, length-drop (length (entries ns)) buffer));
    rest_stays = λ count octets e. rw (← one_length e) (drop_at (entries ns) (drop (length (entries ns)) buffer) (length (entries ns)) refl);
    nothing_written = λ e. absurd (anyone≢listed (sym e));
  }
    where
      l : Listing
      l = written (listed ns) buffer

      read :
          (d : List ℕ) → (listed ns ≡ anyone) ⊎ ((ms : List (List ℕ)) × (listed ns ≡ listed ms) × Memᴰ (lowered d) ms) →
          (l.answer ≡ Anyone) ⊎ ((ms : List (List ℕ)) × ListsNames l ms × Memᴰ (lowered d) ms)
      read d (inl e) = absurd (listed≢anyone e)
      read d (inr (ms, e, m)) = inr (ns, (length ns, length (entries ns), refl, written_read ns buffer), rw (← one_list e) at m)

      unread : (d : List ℕ) → (l.answer ≡ Anyone) ⊎ ((ms : List (List ℕ)) × ListsNames l ms × Memᴰ (lowered d) ms) → Memᴰ (lowered d) ns
      unread d (inl e) = absurd (anyone≢listed (sym e))
      unread d (inr (ms, h, m)) = rw (← read_once ns buffer ms h) at m
