-- `list_in` meets its contract.
use Rattle.list_call.proofs.CallWays.{found}
use Rattle.list_call.proofs.list_in.Goals as goal

pub returns : goal.returns
returns c =
    let put = c.put_list.ensures _ _ (found _ _ _ _ _ _ _ _ _ c.requires _ _ _ _ c.index_book.ensures.rows c.index_book.ensures.links c.index_book.ensures.heads c.index_book.ensures.onward _ _ _ c.find_permitted-found.ensures.answer c.find_permitted-found.ensures.names c.find_permitted-found.ensures.rounds) in
    record { answer = put.0; octets = put.1 }
