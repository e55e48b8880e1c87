-- `check_with` meets its contract.
use Rattle.spec_limits.specs.Limits.{max_records}
use Rattle.book_places.specs.Chains.{no_record}
use Rattle.book_check.proofs.Ways.{blank_arrays, few_cells}
use Rattle.book_check.proofs.check_with.Goals as goal

pub check_in-requires : goal.check_in-requires
unfolding max_records no_record
check_in-requires g c = blank_arrays _ _ _ c.requires.records c.requires.cells

pub whole_as_slice-check_in : goal.whole_as_slice-check_in
whole_as_slice-check_in g c = few_cells _ _ _ c.requires.records c.requires.cells
