-- The climb from a name finds the relevant set of that name, and takes off as many labels as the rule.
use Rattle.spec_refusal.specs.declared.RecordNo.{RecordNo}
use Rattle.std.specs.Prelude.{None, Option, Some}
use Prim.Native.Nat.{ℕ, zero, suc, ◌+◌, ◌<◌}
use native.Mathlib.Nat.{not-suc-le-zero}
use native.Mathlib.Omega.{arith}
use mathlib.Core.Path.{◌≡◌, refl, ap}
use mathlib.Core.List.{List, [], ◌∷◌, ◌++◌, map, append-nil}
use lib.ListN.{length, drop, length-append}
use borrow.Author.Tests.{eq-eqb, ne_eqb}
use Rattle.spec_octets.specs.Lists.{All, all_nil, all_cons}
use Rattle.spec_octets.proofs.ListLaws.{All-head}
use Rattle.spec_octets.proofs.SelectedLists.{selects_all}
use Rattle.spec_name.specs.Names.{Label, Name, wire, ancestors, GoodName}
use Rattle.spec_name.proofs.NameLaws.{fewer_labels}
use Rattle.read_name.proofs.Parents.{root_stays, behind_label, label_passed}
use Rattle.spec_record.specs.Records.{book_refusal}
use Rattle.spec_rule.specs.RelevantSet.{CaaRecord, Book, Lookup, empty, found, endless, lookup, first_found, relevant_set, empty_before, labels_off}
use Rattle.book_places.specs.Table.{table_of}
use Rattle.book_places.specs.Chains.{chains_of}
use Rattle.book_places.specs.Sets.{looked_up_at, or_next, nearest_from, nearest_record, one_more, labels_off_from, labels_off_at}
use Rattle.book_places.specs.Onward.{onward_of}
use Rattle.book_places.specs.Theorems.{records_in, Finds, ClimbByOffset, LabelsOffByOffset}
use Rattle.book_places.proofs.LookLaws.{ruled, look_finds, found_nothing}
use Rattle.spec_rule.proofs.Lookups.{a_lookup}

pub good_parent : (l : Label) (ls : Name) → GoodName (l ∷ ls) → GoodName ls
good_parent l ls (all_cons g gs, long) = (gs, omega (arith, length-append l (wire ls)))

module _ (book table links heads onward : List ℕ) (rule : Book) where
  abbrev Found : Lookup → Option RecordNo → Type 0
  Found l o = Finds book table links l o

  -- the first of these looks that finds anything is told, with the number of looks before it
  abbrev Climbed : List Lookup → Option RecordNo → ℕ → Type 0
  Climbed ls o n = Found (first_found ls) o × (n ≡ empty_before ls)

  -- a look that finds nothing leaves it to the next; one that finds a record ends the climb
  first_place :
      (l : Lookup) (o next : Option RecordNo) (n : ℕ) (after : List Lookup) → Found l o → Climbed after next n → (l ≡ found [] → ⊥) →
      Climbed (l ∷ after) (or_next o next) (one_more o n)
  first_place empty None next n after here rest some-set = (rest.0, ap suc rest.1)
  first_place empty (Some r) next n after here rest some-set = let e = here.first in let z : ◌≡◌ {A = ℕ} 0 1 = cc in absurd (omega arith)
  first_place (found []) o next n after here rest some-set = absurd (some-set refl)
  first_place (found (c ∷ cs)) None next n after here rest some-set = let e = here.first in let z : ◌≡◌ {A = ℕ} 0 1 = cc in absurd (omega arith)
  first_place (found (c ∷ cs)) (Some r) next n after here rest some-set = (here, refl)
  first_place (endless q) None next n after here rest some-set = let e = here.first in let z : ◌≡◌ {A = ℕ} 0 1 = cc in absurd (omega arith)
  first_place (endless q) (Some r) next n after here rest some-set = (here, refl)

  module _ (look : (x : Name) → GoodName x → Found (lookup rule x) (looked_up_at book table links heads onward (wire x))) where
    -- with a step for each label and one for the root
    climb :
        (s : List ℕ) (steps at : ℕ) (x : Name) → drop at s ≡ wire x → GoodName x → length x < steps →
        Climbed (map (lookup rule) (ancestors x)) (nearest_from steps book table links heads onward s at) (labels_off_from steps book table links heads onward s at)
    climb s zero at x here good h = absurd (not-suc-le-zero h)
    climb s (suc steps) at [] here good h =
        rw (root_stays s at [] here, eq-eqb at at refl) (found_nothing book table links, refl)
    climb s (suc steps) at (l ∷ ls) here good h =
        let there : drop at s ≡ wire (l ∷ ls) ++ [] = rw append-nil here in
        let behind : drop (at + 1 + length l) s ≡ wire ls = rw append-nil at (behind_label s at l ls [] there) in
        let rest = climb s steps (at + 1 + length l) ls behind (good_parent l ls good) (omega arith) in
        rw (label_passed s at l ls [] there (All-head good.0).0, ne_eqb (at + 1 + length l) at (λ z. omega arith), here)
        (first_place (lookup rule (l ∷ ls)) _ _ _ (map (lookup rule) (ancestors ls)) (look (l ∷ ls) good) rest (never_bare (l ∷ ls)))
      where
        never_bare : (x : Name) → lookup rule x ≡ found [] → ⊥
        never_bare x e = let (y, ends, selects, some-set) = ((a_lookup rule x).1 []).0 e in some-set refl

module _ (book : List ℕ) (x : Name) (accepted : book_refusal book ≡ None) (good : GoodName x) where
  from_the_name :
      Climbed book (table_of book) (chains_of book).links (chains_of book).heads (onward_of book) (ruled book accepted)
      (map (lookup (ruled book accepted)) (ancestors x))
      (nearest_from (length (wire x)) book (table_of book) (chains_of book).links (chains_of book).heads (onward_of book) (wire x) 0)
      (labels_off_from (length (wire x)) book (table_of book) (chains_of book).links (chains_of book).heads (onward_of book) (wire x) 0)
  from_the_name =
      climb book (table_of book) (chains_of book).links (chains_of book).heads (onward_of book) (ruled book accepted) (look_finds book accepted)
      (wire x) (length (wire x)) 0 x refl good (fewer_labels x)

pub climb_by_offset : ClimbByOffset
unfolding nearest_record relevant_set
climb_by_offset book x accepted good = (from_the_name book x accepted good).0

pub labels_off_by_offset : LabelsOffByOffset
unfolding labels_off_at labels_off
labels_off_by_offset book x accepted good = (from_the_name book x accepted good).1

-- what holds of all CAA records holds of those of a relevant set
module _ (P : CaaRecord → Type 0) (rule : Book) (all : All P rule.caa) where
  pub looked_have : (x : Name) (l : Lookup) → lookup rule x ≡ l → All P (records_in l)
  looked_have x empty e = all_nil
  looked_have x (found cs) e = let (y, ends, selects, some-set) = ((a_lookup rule x).1 cs).0 e in selects_all selects all
  looked_have x (endless r) e = all_nil

  first_have : (l : Lookup) (after : List Lookup) → All P (records_in l) → All P (records_in (first_found after)) → All P (records_in (first_found (l ∷ after)))
  first_have empty after h k = k
  first_have (found ds) after h k = h
  first_have (endless r) after h k = h

  some_have : (xs : List Name) → All P (records_in (first_found (map (lookup rule) xs)))
  some_have [] = all_nil
  some_have (x ∷ xs) = first_have (lookup rule x) (map (lookup rule) xs) (looked_have x (lookup rule x) refl) (some_have xs)

  pub relevant_have : (x : Name) → All P (records_in (relevant_set rule x))
  unfolding relevant_set
  relevant_have x = some_have (ancestors x)
