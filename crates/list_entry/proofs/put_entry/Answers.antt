-- `put_entry` meets its contract.
use borrow.Author.Rules.{rules}
use Rattle.text_buffer.proofs.LentRest.{set_kept}
use Rattle.list_entry.proofs.EntryLoops.{no_entry, entry_starts, octets_from, entry_fits, entry_put}
use Rattle.list_entry.proofs.put_entry.Goals as goal

pub returns-then-name-ge256 : goal.returns-then-name-ge256
returns-then-name-ge256 c = search (rules, no_entry)

pub bounds-out-0 : goal.bounds-out-0
bounds-out-0 c = search (rules, entry_starts)

pub slice_bounds-put_lowered-count : goal.slice_bounds-put_lowered-count
slice_bounds-put_lowered-count c = search (rules, octets_from)

pub slice_bounds-put_lowered-start : goal.slice_bounds-put_lowered-start
slice_bounds-put_lowered-start c = search (rules, octets_from)

pub overflow_add-result : goal.overflow_add-result
overflow_add-result c = search (rules, entry_fits)

pub shape_of-out : goal.shape_of-out
shape_of-out c = search (rules, set_kept)

pub returns : goal.returns
returns c = search (rules, entry_put)
