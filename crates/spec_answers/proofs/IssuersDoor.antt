-- The word of caa_permitted_issuers_for and the buffer: the first row of the table that holds, or the list.
use Rattle.std.specs.Prelude.{Option, None, Some}
use Prim.Native.Nat.{ℕ, ◌≤◌}
use native.Mathlib.Omega.{arith}
use mathlib.Core.Path.{◌≡◌, refl, sym, ap, ◌∙◌}
use mathlib.Core.Logic.{◌↔◌, ◌≢◌, ◌⊎◌, inl, inr, ⊎_elim}
use mathlib.Core.List.{List, [], ◌∷◌, ◌++◌, Memᴰ}
use lib.Dec.{leb}
use lib.ListN.{length, drop, length-append}
use lib.Seq.{take_at}
use borrow.Author.Tests.{leb-true, leb-false}
use Rattle.spec_refusal.specs.declared.Refusal.{Refusal}
use Rattle.spec_refusal.specs.declared.Refusal.TheVariants.{NoRoom}
use Rattle.spec_refusal.specs.Refusal.{number, place}
use Rattle.spec_refusal.proofs.Table.{number_and_place_tell}
use Rattle.spec_octets.specs.Lists.{All}
use Rattle.spec_octets.specs.Octets.{Octets, lowered}
use Rattle.spec_octets.specs.Items.{whole}
use Rattle.spec_octets.proofs.ListLaws.{true_or_false}
use Rattle.spec_request.specs.Request.{requested_names, request_refusal}
use Rattle.spec_request.proofs.Requests.{request_refusals}
use Rattle.spec_issuer.specs.Issuer.{WellFormed}
use Rattle.spec_record.specs.Records.{records, book_refusal}
use Rattle.spec_record.proofs.Book.{book_refusals}
use Rattle.spec_applicant.specs.Applicant.{Applicant, applicant_refusal}
use Rattle.spec_applicant.proofs.Texts.{applicant_refusals}
use Rattle.spec_rule.specs.declared.PermittedIssuers.{PermittedIssuers}
use Rattle.spec_rule.specs.declared.PermittedIssuers.TheVariants.{Anyone, Listed, Refused}
use Rattle.spec_rule.specs.RelevantSet.{as_book}
use Rattle.spec_rule.specs.IssuerLists.{Issuers, anyone, listed, issuers, entries}
use Rattle.spec_rule.specs.Calls.{Listing, authorizations, list_issuers, permitted_issuers_code}
use Rattle.spec_rule.specs.Meaning.{Unrestricted}
use Rattle.spec_rule.specs.Theorems.{total, Row8, ListRow, FirstRow, ReadsBack, ListsNames, ListingTells}
use Rattle.spec_rule.proofs.CheckOrder.{not_here}
use Rattle.spec_rule.proofs.RefusalLaws.{request_keeps, applicant_keeps, book_keeps, list_numbers, list_keeps, list_refusals}
use Rattle.spec_rule.proofs.BufferLaws.{entries_read_back, entries_length, list_in_the_buffer}
use Rattle.spec_rule.proofs.ReadBackLaws.{anyone≢listed, anyone≢refused, listed≢refused, one_count, one_length}
use Rattle.spec_rule.proofs.CallLaws.{call_lists_the_permitted, book_length_is_room}
use Rattle.spec_packed.specs.Packed.{number_in, field_a, field_b, field_c}
use Rattle.spec_answers.specs.Door.{caa_judge_for, caa_permitted_issuers_for, row_8, ListTable, FirstToHold, NoneHolds, Lists, IssuersWord, CaaPermittedIssuersFor}
use Rattle.spec_answers.proofs.ListUnpacks.{list_unpacks}
use Rattle.spec_answers.proofs.DoorRows.{list_rows, one_of, among, none_holds, never_refuses, refuses_exactly}
use Rattle.spec_answers.proofs.DoorWords.{Holds, of_answer, list_refused, list_30, list_31, list_b, list_c, list_a}
use Rattle.spec_answers.proofs.JudgeDoor.{permitted_word}

-- entries at the front of the buffer are read back
module _ (word : ℕ) (after : List ℕ) (ns : List (List ℕ)) where
  reads : Lists word after ns → ReadsBack (field_b word) (field_a word) after ns
  reads (n, fits, front, count) = (fits, count, rw (front, ← count) (entries_read_back ns))

  laid : (buffer : List ℕ) → number_in word ≡ 31 → field_a word ≡ total ns → field_b word ≡ length ns → after ≡ entries ns ++ drop (total ns) buffer →
      Lists word after ns
  laid buffer n a b e =
      (n, rw (a, e, length-append, ← entries_length ns) (omega arith), rw (a, e) (take_at (entries ns) _ (total ns) (entries_length ns)), sym b)

one_reading : {ms ns : List (List ℕ)} → whole ms ≡ whole ns → ms ≡ ns
one_reading e = cc

same_refusal : {x : PermittedIssuers} {q r : Refusal} → x ≡ Refused q → x ≡ Refused r → q ≡ r
same_refusal e f = cc

module _ (request : List ℕ) (who : Applicant) (book buffer : List ℕ) where
  abbrev l : Listing
  l = list_issuers request who book buffer

  abbrev w : ℕ
  w = (caa_permitted_issuers_for request who book buffer).word

  abbrev Word : Type 0
  Word = Holds (number_in w) (field_a w) (field_b w) (field_c w) (permitted_issuers_code l.answer)

  listed_word : Octets book → (count octets : ℕ) → l.answer ≡ Listed count octets → (number_in w ≡ 31) × (field_a w ≡ octets) × (field_b w ≡ count)
  unfolding permitted_issuers_code
  listed_word o count octets e = let h = of_answer _ _ _ _ permitted_issuers_code e (list_unpacks request who book buffer o) in (h.0, h.1, h.2)

  anyone_word : Octets book → l.answer ≡ Anyone → number_in w ≡ 30
  unfolding permitted_issuers_code
  anyone_word o e = (of_answer _ _ _ _ permitted_issuers_code e (list_unpacks request who book buffer o)).0

answer_of_lem : {l m : Listing} → l ≡ m → l.answer ≡ m.answer
answer_of_lem e = ap (λ (l : Listing). l.answer) e

module _ (request : List ℕ) (who : Applicant) (book buffer : List ℕ) (request-octets : Octets request) (book-octets : Octets book) where
  abbrev L : Listing
  L = l request who book buffer

  abbrev W : ℕ
  W = w request who book buffer

  u : Word request who book buffer
  u = list_unpacks request who book buffer book-octets

  abbrev Refuses : Refusal → Type 0
  Refuses r = L.answer ≡ Refused r

  refuses : (r : Refusal) → Refuses r ↔ FirstRow (ListRow request who book buffer) r
  refuses r = (list_refusals request who book buffer request-octets book-octets r).0

  abbrev Unrefused : Type 0
  Unrefused = (r : Refusal) → Refuses r → ⊥

  abbrev Unrefused_all : Type 0
  Unrefused_all = NoneHolds (ListTable request who book buffer)

  none_held : Unrefused → Unrefused_all
  none_held = none_holds (list_rows request who book buffer) Refuses refuses

  passed : Unrefused_all → Unrefused
  passed = never_refuses (list_rows request who book buffer) Refuses refuses

  refused_word : (n p : ℕ) → 1 ≤ n → n ≤ 19 → ((number_in W ≡ n) × (field_a W ≡ p)) ↔ FirstToHold (ListTable request who book buffer) n p
  unfolding permitted_issuers_code
  refused_word =
      refuses_exactly (list_rows request who book buffer) Refuses refuses (number_in W) (field_a W)
      (λ low. list_refused _ _ _ _ L.answer u) (λ r e. let h = of_answer _ _ _ _ permitted_issuers_code e u in (h.0, h.1))

  -- a call that is not refused, or with 8, finds nothing wrong with what it was handed
  abbrev Accepted : Type 0
  Accepted = (request_refusal request ≡ None) × (applicant_refusal who ≡ None) × (book_refusal book ≡ None)

  accepted : ((r : Refusal) → number r ≢ 8 → Refuses r → ⊥) → Accepted
  unfolding list_issuers number
  accepted never = go (request_refusal request) (applicant_refusal who) (book_refusal book) refl refl refl
    where
      go : (a b c : Option Refusal) → request_refusal request ≡ a → applicant_refusal who ≡ b → book_refusal book ≡ c → Accepted
      go None None None e f g = (e, f, g)
      go (Some r) b c e f g = absurd (never r (λ n. omega (arith, (request_refusals request request-octets).3 r e)) (rw e))
      go None (Some r) c e f g = absurd (never r (λ n. omega (arith, ap number ((applicant_refusals who).2 r f))) (rw (e, f)))
      go None None (Some r) e f g = absurd (never r (λ n. ⊎_elim (λ k. omega arith) (λ k. omega arith) ((book_refusals book book-octets).4 r g)) (rw (e, f, g)))

  tells : Unrefused → ListingTells request who book buffer L
  tells never =
      let (e, f, g) = accepted (λ r other. never r) in
      call_lists_the_permitted request who book buffer e f g (λ n. never (NoRoom n))

  -- anyone, or a list: no refusal
  at_30 : number_in W ≡ 30 → (L.answer ≡ Anyone) × Unrefused
  at_30 n = let e = list_30 _ _ _ _ L.answer u n in (e, λ r f. anyone≢refused (sym e ∙ f))

  at_31 : number_in W ≡ 31 → (L.answer ≡ Listed (field_b W) (field_a W)) × Unrefused
  at_31 n = let e = list_31 _ _ _ _ L.answer u n in (e, λ r f. listed≢refused (sym e ∙ f))

  abbrev Free : Type 0
  Free = All (Unrestricted (as_book (records book))) (requested_names request)

  anyone_exactly : (number_in W ≡ 30) ↔ (Unrefused_all × Free)
  anyone_exactly = (
    λ n. let (e, never) = at_30 n in (none_held never, (tells never).anyone_exactly.0 e),
    λ (no_row, free). anyone_word request who book buffer book-octets ((tells (passed no_row)).anyone_exactly.1 free),
  )

  listed_exactly : (number_in W ≡ 31) ↔ (Unrefused_all × (Free → ⊥))
  listed_exactly = (
    λ n. let (e, never) = at_31 n in (none_held never, λ free. anyone≢listed (sym ((tells never).anyone_exactly.1 free) ∙ e)),
    λ (no_row, bound). ⊎_elim
        (λ e. absurd (bound ((tells (passed no_row)).anyone_exactly.0 e)))
        (λ (count, octets, e). (listed_word request who book buffer book-octets count octets e).0)
        (tells (passed no_row)).answered,
  )

  -- the entries stand in the buffer
  there : number_in W ≡ 31 → (ns : List (List ℕ)) × Lists W L.buffer ns
  there n = go (accepted (λ r other. (at_31 n).1 r)) (issuers (authorizations request who book)) refl
    where
      go : Accepted → (i : Issuers) → issuers (authorizations request who book) ≡ i → (ns : List (List ℕ)) × Lists W L.buffer ns
      go (r, a, b) anyone e = absurd (anyone≢listed (sym (answer_of_lem ((list_in_the_buffer request who book buffer r a b).0 e)) ∙ (at_31 n).0))
      go (r, a, b) (listed ns) e =
          let room : length (entries ns) ≤ length buffer = ⊎_elim
          (leb-true _ _)
          (λ k. absurd (none_held (at_31 n).1 8 _ (inr (inr (inr (row_8 _ (ns, e, refl, leb-false _ _ k)))))))
          (true_or_false (leb (length (entries ns)) (length buffer))) in
          let whole = (list_in_the_buffer request who book buffer r a b).1 ns e (omega (arith, entries_length ns)) in
          let (n, size, count) = listed_word request who book buffer book-octets (length ns) (total ns) (answer_of_lem whole) in
          (ns, laid W L.buffer ns buffer n size count (ap (λ (l : Listing). l.buffer) whole))

  module _ (ns : List (List ℕ)) (h : Lists W L.buffer ns) where
    -- what the caller reads are the names that the theorem on the call speaks of
    named : ListsNames L ns
    named = (field_b W, field_a W, (at_31 h.0).0, reads W L.buffer ns h)

    of_list : ListingTells request who book buffer L
    of_list = tells (at_31 h.0).1

    permitted : (d : List ℕ) → WellFormed d → (number_in (caa_judge_for request d who book) ≡ 0) ↔ Memᴰ (lowered d) ns
    permitted d good = (
      λ e. go ((of_list.permitted_exactly d good).0 ((permitted_word request d who book).0 e)),
      λ m. (permitted_word request d who book).1 ((of_list.permitted_exactly d good).1 (inr (ns, named, m))),
    )
      where
        go : (L.answer ≡ Anyone) ⊎ ((ms : List (List ℕ)) × ListsNames L ms × Memᴰ (lowered d) ms) → Memᴰ (lowered d) ns
        go (inl e) = absurd (anyone≢listed (sym e ∙ (at_31 h.0).0))
        go (inr (ms, (count, octets, e, (fits, c, same)), m)) =
            let f = sym e ∙ (at_31 h.0).0 in
            rw (one_reading (sym (rw (one_count f, one_length f) at same) ∙ (reads W L.buffer ns h).2)) at m

  anyone_permitted : number_in W ≡ 30 → (d : List ℕ) → WellFormed d → number_in (caa_judge_for request d who book) ≡ 0
  anyone_permitted n d good =
      let (e, never) = at_30 n in (permitted_word request d who book).1 (((tells never).permitted_exactly d good).1 (inl e))

  -- 8 is answered to an accepted request and book
  at_8 : number_in W ≡ 8 → Refuses (NoRoom (field_a W)) × Accepted
  unfolding number place
  at_8 n =
      let (r, e, nr, pr) = list_refused _ _ _ _ L.answer u (omega arith) in
      (eight e (number_and_place_tell r (NoRoom (field_a W)) (nr ∙ n) pr), accepted (λ q other f. other (ap number (same_refusal f e) ∙ nr ∙ n)))
    where
      eight : {r : Refusal} → Refuses r → r ≡ NoRoom (field_a W) → Refuses (NoRoom (field_a W))
      eight e same = rw same at e

  -- its row is row 8
  row_of_8 : (n : ℕ) → ListRow request who book buffer (NoRoom n) → Row8 request who book buffer n
  unfolding number place
  row_of_8 n (inl h) = absurd (not_here (request_keeps request request-octets) (NoRoom n) refl h)
  row_of_8 n (inr (inl h)) = absurd (not_here (applicant_keeps who) (NoRoom n) refl h)
  row_of_8 n (inr (inr (inl h))) = absurd (not_here (book_keeps book book-octets) (NoRoom n) refl h)
  row_of_8 n (inr (inr (inr (m, e, h)))) = rw (ap place e) h

  -- after which a buffer of that length gets the list
  asked : number_in W ≡ 8 → (other : List ℕ) → field_a W ≤ length other →
      (number_in (w request who book other) ≡ 31) × (field_a (w request who book other) ≡ field_a W)
  asked n other fits =
      let (e, (r, a, b)) = at_8 n in
      let (ns, f, size, less) = row_of_8 (field_a W) ((refuses (NoRoom (field_a W))).0 e).0 in
      let whole = (list_in_the_buffer request who book other r a b).1 ns f (omega (arith, entries_length ns)) in
      let (m, octets, count) = listed_word request who book other book-octets (length ns) (total ns) (answer_of_lem whole) in
      (m, octets ∙ sym (entries_length ns) ∙ size)

  length_kept : (x : PermittedIssuers) → L.answer ≡ x → length L.buffer ≡ length buffer
  length_kept Anyone e = (tells (λ r f. anyone≢refused (sym e ∙ f))).length_stays
  length_kept (Listed count octets) e = (tells (λ r f. listed≢refused (sym e ∙ f))).length_stays
  length_kept (Refused r) e = ap length ((list_refusals request who book buffer request-octets book-octets r).1 e)

  number_found_lem : (x : PermittedIssuers) → L.answer ≡ x → Memᴰ (number_in W) (1 ∷ 2 ∷ 3 ∷ 15 ∷ 5 ∷ 6 ∷ 7 ∷ 12 ∷ 8 ∷ 30 ∷ 31 ∷ [])
  unfolding permitted_issuers_code
  number_found_lem Anyone e = rw (of_answer _ _ _ _ permitted_issuers_code e u).0 (one_of 30 _ refl)
  number_found_lem (Listed count octets) e = rw (of_answer _ _ _ _ permitted_issuers_code e u).0 (one_of 31 _ refl)
  number_found_lem (Refused r) e =
      rw (of_answer _ _ _ _ permitted_issuers_code e u).0
      (among list_numbers _ refl ((list_keeps request who book buffer request-octets book-octets).numbered r ((refuses r).0 e).0))

  issuers_word : IssuersWord request who book buffer W L.buffer
  issuers_word = record {
    refused_exactly = refused_word;
    refused_unchanged = λ less.
        let (r, e, nr, pr) = list_refused _ _ _ _ L.answer u less in (list_refusals request who book buffer request-octets book-octets r).1 e;
    anyone_exactly = anyone_exactly;
    anyone_unchanged = λ n. let (e, never) = at_30 n in (tells never).nothing_written e;
    anyone_permitted = anyone_permitted;
    listed_exactly = listed_exactly;
    list_there = there;
    list_read = λ ns h. (reads W L.buffer ns h).2;
    permitted_exactly = permitted;
    well_formed = λ ns h. (of_list ns h).well_formed ns (named ns h);
    none_twice = λ ns h. (of_list ns h).none_twice ns (named ns h);
    in_order = λ ns h. (of_list ns h).in_order ns (named ns h);
    rest_stays = λ n. let (e, never) = at_31 n in (tells never).rest_stays _ _ e;
    length_stays = length_kept L.answer refl;
    book_length_enough = λ long n. let (e, (r, a, b)) = at_8 n in book_length_is_room request who book buffer book-octets r a b long _ e;
    room_asked_enough = asked;
    numbers = number_found_lem L.answer refl;
    c_unused = list_c _ _ _ _ L.answer u;
    b_unused = list_b _ _ _ _ L.answer u;
    a_unused = list_a _ _ _ _ L.answer u;
  }

pub caa_permitted_issuers_for_lem : CaaPermittedIssuersFor
caa_permitted_issuers_for_lem = issuers_word
