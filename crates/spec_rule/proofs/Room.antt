-- A buffer as long as the book is always enough: each listed name comes from its own record, which is at least as long as its entry.
use Rattle.std.specs.Prelude.{Option, None, Some}
use Prim.Native.Nat.{ℕ, ◌+◌, ◌≤◌}
use native.Mathlib.Omega.{arith}
use mathlib.Core.Path.{◌≡◌, refl, ap}
use mathlib.Core.Logic.Iff
use mathlib.Core.Bool.{Bool, not, true≢false}
use mathlib.Core.List.{List, [], ◌∷◌, map}
use lib.ListN.{length, drop, length-append, length-map}
use Rattle.spec_octets.specs.Lists.{all, select, flatten, Selects, selects_nil, selects_take, selects_pass}
use Rattle.spec_octets.specs.Octets.{same, lower}
use Rattle.spec_octets.proofs.SelectLaws.{selected}
use Rattle.spec_name.specs.Names.{Name}
use Rattle.spec_request.specs.Request.{requested_names, base}
use Rattle.spec_record.specs.Records.{Record, wire_record, records}
use Rattle.spec_record.proofs.Book.{book_is_its_records}
use Rattle.spec_applicant.specs.Applicant.{Applicant}
use Rattle.spec_rule.specs.RelevantSet.{CaaRecord, Book, as_book, empty, found, relevant_set}
use Rattle.spec_rule.specs.Authorizations.{Authorization, unrestricted, forbidden, granted, unresolved, grantee, cons_some, grantees, authorization, permits}
use Rattle.spec_rule.specs.IssuerLists.{listed, distinct, issuers}
use Rattle.spec_rule.specs.Calls.{authorizations}
use Rattle.spec_rule.specs.Meaning.{CaaRecordsOf, at_end, is_caa_record, is_other, Grants}
use Rattle.spec_rule.specs.Theorems.{total, RoomOfTheBook}
use Rattle.spec_rule.proofs.Lookups.{caa_records_lem, a_lookup}
use Rattle.spec_rule.proofs.Nearest.{nearest_name_decides}
use Rattle.spec_rule.proofs.AuthorizationLaws.{grantee_exactly, granted_governs}

module _ {A : Type 0} (size : A → ℕ) where
  -- the sizes together
  abbrev sum : List A → ℕ
  sum [] = 0
  sum (x ∷ xs) = size x + sum xs

  selects_less : {P : A → Type 0} {xs ys : List A} → Selects P xs ys → sum ys ≤ sum xs
  selects_less selects_nil = omega arith
  selects_less (selects_take p s) = omega (arith, selects_less s)
  selects_less (selects_pass n s) = omega (arith, selects_less s)

  select_less : (p : A → Bool) (xs : List A) → sum (select p xs) ≤ sum xs
  select_less p xs = selects_less (selected p (λ x. Iff.rfl) xs)

-- a name with its length octet; a value with one more octet; a record in wire form
abbrev name_size : List ℕ → ℕ
name_size n = length n + 1

abbrev value_size : CaaRecord → ℕ
value_size r = length r.property.value + 1

abbrev record_size : Record → ℕ
record_size r = length (wire_record r)

total_sum : (ns : List (List ℕ)) → total ns ≡ sum name_size ns
total_sum [] = refl
total_sum (n ∷ ns) = rw (total_sum ns)

distinct_less : (ns : List (List ℕ)) → sum name_size (distinct ns) ≤ sum name_size ns
distinct_less [] = omega arith
distinct_less (n ∷ ns) = omega (arith, select_less name_size (λ m. not (same m n)) (distinct ns), distinct_less ns)

-- the name is a part of the value
grantee_less : (who : Applicant) (r : CaaRecord) (d : List ℕ) → Grants who d r → name_size d ≤ value_size r
grantee_less who r d (n, ps, (a, b, e, blank, (m, c, f, (g, labels), more)), w, l, admitted) =
    omega (arith, ap length e, length-append a b, ap length f, length-append m c, ap length g, ap length l, length-map n lower)

grantees_less : (who : Applicant) (gs : List CaaRecord) → sum name_size (grantees who gs) ≤ sum value_size gs
grantees_less who [] = omega arith
grantees_less who (g ∷ gs) = go (grantee who g) refl (grantees_less who gs)
  where
    go :
        (o : Option (List ℕ)) → grantee who g ≡ o → sum name_size (grantees who gs) ≤ sum value_size gs →
        sum name_size (cons_some o (grantees who gs)) ≤ value_size g + sum value_size gs
    go None e h = omega arith
    go (Some d) e h = omega (arith, grantee_less who g d ((grantee_exactly who g d).0 e))

-- all that a name grants comes from records of the book, each once
module _ (who : Applicant) (book : Book) where
  relevant_less : (x : Name) (rs : List CaaRecord) → relevant_set book x ≡ found rs → sum value_size rs ≤ sum value_size book.caa
  relevant_less x rs e =
      let (k, near) = ((nearest_name_decides book x).0 (found rs) (λ (h : found rs ≡ empty). true≢false (cc))).0 e in
      let (y, ends, selects, some-set) = ((a_lookup book (drop k x)).1 rs).0 near.1 in
      selects_less value_size selects

  granted_less : (n : Name) (r : ℕ) (ns : List (List ℕ)) → authorization who book n ≡ granted r ns → sum name_size ns ≤ sum value_size book.caa
  granted_less n r ns e =
      let (gs, (rs, relevant, harmless, governing), same) = (granted_governs who book n r ns e).1 in
      rw same (omega (arith, grantees_less who gs, selects_less value_size governing, relevant_less (base n) rs relevant))

  issuers_less : (names : List Name) (ns : List (List ℕ)) → issuers (map (authorization who book) names) ≡ listed ns → sum name_size ns ≤ sum value_size book.caa
  issuers_less [] ns e = let z : ◌≡◌ {A = ℕ} 0 1 = cc in absurd (omega arith)
  issuers_less (n ∷ names) ns e = go (authorization who book n) refl e (issuers_less names ns)
    where
      rest : List Authorization
      rest = map (authorization who book) names

      go :
          (a : Authorization) → authorization who book n ≡ a → issuers (a ∷ rest) ≡ listed ns →
          (issuers rest ≡ listed ns → sum name_size ns ≤ sum value_size book.caa) → sum name_size ns ≤ sum value_size book.caa
      go unrestricted a e later = later e
      go (forbidden r) a e later = let same : [] ≡ ns = cc in rw (← same) (omega arith)
      go (unresolved r) a e later = let same : [] ≡ ns = cc in rw (← same) (omega arith)
      go (granted r ms) a e later =
          let kept : select (λ m. all (permits m) rest) (distinct ms) ≡ ns = cc in
          rw (← kept) (omega (arith, select_less name_size (λ m. all (permits m) rest) (distinct ms), distinct_less ms, granted_less n r ms a))

-- the data stands in the record, and the value in the data
data_less : (r : Record) → length r.rdata ≤ record_size r
data_less r = simp length-append (omega arith)

caa_less : {k : ℕ} {rs : List Record} {cs : List CaaRecord} → CaaRecordsOf k rs cs → sum value_size cs ≤ sum record_size rs
caa_less at_end = omega arith
caa_less (is_caa_record {r} {rs} p t c d l rest) = omega (arith, data_less r, ap length d, length-append p.tag p.value, caa_less rest)
caa_less (is_other n rest) = omega (arith, caa_less rest)

records_length : (rs : List Record) → length (flatten (map wire_record rs)) ≡ sum record_size rs
records_length [] = refl
records_length (r ∷ rs) = omega (arith, length-append (wire_record r) (flatten (map wire_record rs)), records_length rs)

pub room_of_the_book : RoomOfTheBook
unfolding authorizations
room_of_the_book request who book octets accepted ns e =
    let (whole, good, few, short, apart) = (book_is_its_records book octets (records book)).0 (accepted, refl) in
    omega (
      arith,
      total_sum ns,
      issuers_less who (as_book (records book)) (requested_names request) ns e,
      caa_less (caa_records_lem (records book) good),
      records_length (records book),
      ap length whole,
    )
