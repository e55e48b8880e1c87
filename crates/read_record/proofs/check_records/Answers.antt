-- `check_records` meets its contract. The loop's invariant: k records are read, the next begins at `at`, and `aliased` says whether there is an alias
-- among those read.
use borrow.Author.Rules.{rules}
use Rattle.spec_limits.specs.Limits.{max_book_octets, max_records}
use Rattle.read_record.proofs.BookWalk.{book_too_long, book_start, book_told, too_many_records, bad_record_lem, record_passed, less_left}
use Rattle.read_record.proofs.check_records.Goals as goal

pub returns-then-b-gt-MAX_BOOK_OCTETS : goal.returns-then-b-gt-MAX_BOOK_OCTETS
unfolding max_book_octets
returns-then-b-gt-MAX_BOOK_OCTETS c = search (rules, book_too_long)

pub loop-at-init : goal.loop-at-init
loop-at-init c = search (rules, book_start)

pub returns-then-k-eq-MAX_RECORDS : goal.returns-then-k-eq-MAX_RECORDS
unfolding max_book_octets max_records
returns-then-k-eq-MAX_RECORDS c = search (rules, too_many_records)

pub returns-in_err-r : goal.returns-in_err-r
unfolding max_book_octets max_records
returns-in_err-r c = search (rules, bad_record_lem)

pub overflow_add-k : goal.overflow_add-k
unfolding max_records
overflow_add-k c = search rules

pub loop-at-smaller : goal.loop-at-smaller
loop-at-smaller c = search (rules, less_left)

pub loop-at-preserved : goal.loop-at-preserved
unfolding max_records
loop-at-preserved c =
    let passed = record_passed c.args.b.now c.loop-at.k c.loop-at.at c.loop-at.aliased c.loop-at.invariant in
    search (rules, passed)

pub returns : goal.returns
unfolding max_book_octets
returns c = search (rules, book_told)
