-- The grants of a tagged set name the issuers that it grants.
use Rattle.std.specs.Prelude.{Option, Some, None}
use Prim.Native.Nat.{ℕ, ◌+◌, ◌-◌, ◌%◌, ◌≤◌, ◌<◌}
use native.Mathlib.Nat.{add-mod, mod-eq_of_lt}
use native.Mathlib.Omega.{arith}
use mathlib.Core.Path.{◌≡◌, refl, sym, ap, ◌∙◌}
use mathlib.Core.Bool.{Bool, true, false, cond}
use mathlib.Core.List.{List, [], ◌∷◌, ◌++◌, map}
use lib.Dec.{leb}
use lib.ListN.{length, take, drop, length-drop, length-take, take-append-drop, drop_of_length-le}
use lib.Seq.{drop-drop, drop-append-le, take-append-le}
use borrow.Author.Tests.{leb-true, leb-false}
use Rattle.spec_limits.specs.Limits.{max_book_octets}
use Rattle.spec_octets.specs.Lists.{cons_if, select}
use Rattle.spec_octets.specs.Octets.{lowered}
use Rattle.spec_record.specs.declared.PropertyTag.{PropertyTag}
use Rattle.spec_applicant.specs.Applicant.{Applicant}
use Rattle.spec_rule.specs.Authorizations.{cons_some}
use Rattle.read_value.specs.declared.NameAt.{NameAt}
use Rattle.read_grantee.specs.Places.{grantee_at, grantee_of_data, name_at}
use Rattle.read_grantee.proofs.Grantees.{nobody_granted, somebody_granted, grantee_from, grantee_to}
use Rattle.book_places.specs.Table.{cell, data_at}
use Rattle.book_places.specs.Sets.{data_has_tag, set_at}
use Rattle.book_places.specs.NameAuthorizations.{grantees_at, set_grantees}
use Rattle.list_places.specs.declared.Grant.{Grant}
use Rattle.list_places.specs.Grants.{grant_in, grant_read, grants_of, grants_from, grant_octets}
use Rattle.list_places.specs.Theorems.{GrantsByOffset}

sum_fits : (a b : ℕ) → a + b < 65536 → (a % 65536 + b % 65536) % 65536 ≡ a + b
sum_fits a b h = sym (add-mod a b 65536) ∙ mod-eq_of_lt h

-- a name in a part of the book that begins at an offset
module _ (book : List ℕ) (small : length book ≤ max_book_octets) (offset n : ℕ) (p : NameAt) (order : p.from ≤ p.to)
    (inside : p.to ≤ length (take n (drop offset book))) where
  abbrev part : List ℕ
  part = take n (drop offset book)

  abbrev long : ℕ
  long = p.to - p.from

  -- as it stands in the whole book
  whole : take long (drop (offset + p.from) book) ≡ take long (drop p.from part)
  whole =
      rw (← drop-drop p.from offset book)
      (ap (λ l. take long (drop p.from l)) (sym (take-append-drop n (drop offset book)))
      ∙ ap (take long) (drop-append-le p.from part (drop n (drop offset book)) (omega arith))
      ∙ take-append-le long (drop p.from part) (drop n (drop offset book)) (omega (arith, length-drop p.from part)))

  pub in_book : (i : ℕ) → grant_octets book (grant_in i offset p) ≡ name_at part p
  unfolding max_book_octets
  in_book i = go (leb offset (length book)) refl
    where
      go : (t : Bool) → leb offset (length book) ≡ t → grant_octets book (grant_in i offset p) ≡ name_at part p
      go true e =
          let there = leb-true offset (length book) e in
          let room : offset + p.to ≤ length book = omega (arith, length-take n (drop offset book), length-drop offset book) in
          rw (sum_fits offset p.from (omega arith), mod-eq_of_lt {n = long} {m = 65536} (omega arith)) whole
      go false e =
          let past = leb-false offset (length book) e in
          let none : drop offset book ≡ [] = drop_of_length-le book {i = offset} (omega arith) in
          let nothing : p.to ≡ 0 = omega (arith, length-take n (drop offset book), ap length none) in
          let length-zero : long ≡ 0 = omega arith in
          rw length-zero refl

module _ (who : Applicant) (book table links : List ℕ) (small : length book ≤ max_book_octets) (tag : PropertyTag) where
  abbrev named : List Grant → List (List ℕ)
  named gs = map (λ g. lowered (grant_octets book g)) gs

  in_data :
      (i : ℕ) (n : NameAt) → n.from ≤ n.to → n.to ≤ length (data_at book table i) →
      grant_octets book (grant_in i (cell table i 2) n) ≡ name_at (data_at book table i) n
  unfolding data_at
  in_data i n order inside = in_book book small (cell table i 2) (cell table i 4) n order inside i

  named_read :
      (i : ℕ) (o : Option NameAt) → o ≡ grantee_at who (data_at book table i) → (gs : List Grant) →
      named (grant_read i (cell table i 2) o ++ gs) ≡ cons_some (grantee_of_data who (data_at book table i)) (named gs)
  named_read i None e gs = rw (nobody_granted who (data_at book table i) None e refl)
  named_read i (Some n) e gs =
      rw (somebody_granted who (data_at book table i) (Some n) e n refl)
      (ap (λ l. lowered l ∷ named gs) (in_data i n (grantee_from who _ (Some n) e n refl) (grantee_to who _ (Some n) e n refl)))

  named_of : (is : List ℕ) → named (grants_of who book table tag is) ≡ grantees_at who book table links (select (λ i. data_has_tag tag (data_at book table i)) is)
  named_of [] = refl
  named_of (i ∷ is) = go (data_has_tag tag (data_at book table i)) (named_of is)
    where
      go :
          (t : Bool) → named (grants_of who book table tag is) ≡ grantees_at who book table links (select (λ i. data_has_tag tag (data_at book table i)) is) →
          named (cond t (grant_read i (cell table i 2) (grantee_at who (data_at book table i))) [] ++ grants_of who book table tag is)
          ≡ grantees_at who book table links (cons_if t i (select (λ i. data_has_tag tag (data_at book table i)) is))
      go true rest = named_read i (grantee_at who (data_at book table i)) refl (grants_of who book table tag is) ∙ rw rest
      go false rest = rest

pub grants_by_offset : GrantsByOffset
unfolding grants_from set_grantees set_at
grants_by_offset who book table links small s = named_of who book table links small s.tag (set_at book table links s.set)
