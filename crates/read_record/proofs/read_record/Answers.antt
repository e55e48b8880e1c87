-- `read_record` meets its contract: a law of record_at for each return.
use borrow.Author.Rules.{rules}
use Rattle.read_record.proofs.RecordPlaces.{data_before, data_inside}
use Rattle.read_record.proofs.RecordWays.{no_fields_no_record, wrong_data, record_read}
use Rattle.read_record.proofs.read_record.Goals as goal

pub returns-in_err-r : goal.returns-in_err-r
returns-in_err-r c = search (rules, no_fields_no_record)

pub slice_bounds-is_laid_out-count : goal.slice_bounds-is_laid_out-count
slice_bounds-is_laid_out-count c = search (rules, data_before)

pub slice_bounds-is_laid_out-start : goal.slice_bounds-is_laid_out-start
slice_bounds-is_laid_out-start c = search (rules, data_before)

pub slice_bounds-is_laid_out-end : goal.slice_bounds-is_laid_out-end
slice_bounds-is_laid_out-end c = search (rules, data_inside)

pub returns-then-not-is_laid_out : goal.returns-then-not-is_laid_out
returns-then-not-is_laid_out c = search (rules, wrong_data)

pub returns : goal.returns
returns c = search (rules, record_read)
