-- `list_with` meets its contract.
use Rattle.book_places.specs.Chains.{no_record}
use Rattle.list_call.proofs.CallWays.{lent_sized, cells_fit, numbers_fit}
use Rattle.list_call.proofs.list_with.Goals as goal

pub whole_as_slice-list_in : goal.whole_as_slice-list_in
whole_as_slice-list_in g c = cells_fit _ _ _ _ c.requires.sizes

pub whole_as_slice-list_in-4 : goal.whole_as_slice-list_in-4
whole_as_slice-list_in-4 g c = numbers_fit _ _ _ _ c.requires.sizes

pub list_in-requires : goal.list_in-requires
unfolding no_record
list_in-requires g c = lent_sized _ _ _ _ c.requires.lent _ _ _ c.requires.sizes
