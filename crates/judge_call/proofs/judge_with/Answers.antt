-- `judge_with` meets its contract.
use Rattle.book_places.specs.Chains.{no_record}
use Rattle.judge_call.proofs.TableMade.{lent_sized, cells_fit}
use Rattle.judge_call.proofs.judge_with.Goals as goal

pub whole_as_slice-judge_in : goal.whole_as_slice-judge_in
whole_as_slice-judge_in g c = cells_fit _ _ _ _ c.requires.sizes

pub judge_in-requires : goal.judge_in-requires
unfolding no_record
judge_in-requires g c = lent_sized _ _ _ _ _ c.requires.lent _ _ _ c.requires.sizes
