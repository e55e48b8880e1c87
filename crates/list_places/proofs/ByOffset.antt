-- The candidates found for an accepted request and book are those who may sign.
use Rattle.std.specs.Prelude.{None, Some, Option}
use Prim.Native.Nat.{ℕ, ◌*◌, ◌≤◌}
use native.Mathlib.Omega.{arith}
use mathlib.Core.Path.{◌≡◌, refl, ap, ◌∙◌}
use mathlib.Core.Bool.{Bool, true, false, cond}
use mathlib.Core.List.{List}
use lib.Dec.{ltb}
use lib.ListN.{length, take, replicate, length-take, length-replicate}
use borrow.Author.Tests.{ltb-false}
use Rattle.spec_limits.specs.Limits.{max_names, max_book_octets}
use Rattle.spec_refusal.specs.declared.Refusal.TheVariants.{BookTooLong}
use Rattle.spec_request.specs.Request.{request_refusal}
use Rattle.spec_record.specs.Records.{layout_refusal, book_refusal, record_refusal, record_items}
use Rattle.spec_applicant.specs.Applicant.{Applicant}
use Rattle.spec_rule.specs.IssuerLists.{issuers}
use Rattle.spec_rule.specs.Calls.{authorizations}
use Rattle.book_places.proofs.AcceptedBook.{laid_out_book}
use Rattle.book_places.specs.Table.{room_for, table_of}
use Rattle.book_places.specs.Chains.{chains_of}
use Rattle.book_places.specs.Onward.{onward_of}
use Rattle.book_places.proofs.StandingRecords.{room_enough}
use Rattle.book_places.proofs.ChainedRecords.{chains_fit}
use Rattle.list_places.specs.Rounds.{kept_names}
use Rattle.list_places.specs.Questions.{NameQuestion, NotedQuestions, questions, noted, once}
use Rattle.list_places.specs.PermittedBy.{anyone_in, all_asked, by_noted, noted_in, permitted_in, issuers_in}
use Rattle.list_places.specs.Theorems.{PermittedByOffset}
use Rattle.list_places.proofs.OnceLaws.{once_issuers, once_fewer}
use Rattle.list_places.proofs.NotedIssuers.{noted_length, by_numbers, noted_issuers}
use Rattle.list_places.proofs.AskedNames.{answered, said_names}
use Rattle.list_places.proofs.AskedSets.{answers_lower, all_0, asked_issuers}

pub book_small : (book : List ℕ) → book_refusal book ≡ None → length book ≤ max_book_octets
unfolding layout_refusal
book_small book e = go (ltb max_book_octets (length book)) refl (laid_out_book book e)
  where
    go : (t : Bool) → ltb max_book_octets (length book) ≡ t → cond t (Some BookTooLong) (record_refusal (record_items book)) ≡ None → length book ≤ max_book_octets
    go true k h = let z : ◌≡◌ {A = ℕ} 0 1 = cc in absurd (omega arith)
    go false k h = ltb-false max_book_octets (length book) k

module _ (who : Applicant) (request book : List ℕ) (r : request_refusal request ≡ None) (b : book_refusal book ≡ None) where
  abbrev table : List ℕ
  table = table_of book

  abbrev links : List ℕ
  links = (chains_of book).links

  abbrev heads : List ℕ
  heads = (chains_of book).heads

  abbrev onward : List ℕ
  onward = onward_of book

  abbrev asked : List NameQuestion
  asked = questions request book table links heads onward

  abbrev kept : NotedQuestions
  kept = noted_in request book table links heads onward

  -- the questions noted give the answer
  by_noted_lem : by_numbers (answered who book table links) kept.answer kept.numbers ≡ issuers (authorizations request who book)
  unfolding noted_in noted authorizations
  by_noted_lem =
      let names = said_names who request book b r in
      noted_issuers (answered who book table links) asked 0 (replicate max_names 0) (rw length-replicate names.few) ∙ ap issuers names.same

  few_numbers : (n : ℕ) → length (take n kept.numbers) ≤ max_names
  unfolding noted_in noted
  few_numbers n = rw (length-take, noted_length asked 0 (replicate max_names 0), length-replicate) (omega arith)

  module _ (names : List ℕ) (room : 2 * room_for book ≤ length names) where
    by_answer :
        (a : Option ℕ) (numbers : List ℕ) → ((n : ℕ) → length (take n numbers) ≤ max_names) →
        issuers_in book (by_noted who book table links a numbers names (replicate (room_for book) 0)) ≡ by_numbers (answered who book table links) a numbers
    unfolding kept_names all_asked max_names
    by_answer None numbers few = refl
    by_answer (Some n) numbers few =
        asked_issuers who book table links (book_small book b) (room_for book) (omega (arith, (chains_fit book).0)) (room_enough book).1 (once (take n numbers)) (anyone_in names (replicate (room_for book) 0)) (record {
          fresh = λ e. refl;
          room = λ e. rw (chains_fit book).0 room;
          within = all_0 (room_for book);
          few = omega (arith, once_fewer (take n numbers), few n);
        })
        ∙ once_issuers (answered who book table links) (answers_lower who book table links (book_small book b)) (take n numbers)

pub permitted_by_offset : PermittedByOffset
unfolding permitted_in
permitted_by_offset who request book names r b room =
    by_answer who request book r b names room (kept who request book r b).answer (kept who request book r b).numbers (few_numbers who request book r b)
    ∙ by_noted_lem who request book r b
