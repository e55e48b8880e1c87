-- `look_with` meets its contract.
use Rattle.spec_limits.specs.Limits.{max_records}
use Rattle.book_places.specs.Chains.{no_record}
use Rattle.session_look.proofs.LookWays.{blank_arrays, few_cells}
use Rattle.session_look.proofs.look_with.Goals as goal

pub look_in-requires : goal.look_in-requires
unfolding max_records no_record
look_in-requires g c = blank_arrays _ _ _ c.requires.records c.requires.cells

pub whole_as_slice-look_in : goal.whole_as_slice-look_in
whole_as_slice-look_in g c = few_cells _ _ _ c.requires.records c.requires.cells
