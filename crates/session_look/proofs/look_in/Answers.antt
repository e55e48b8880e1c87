-- `look_in` meets its contract.
use Rattle.session_look.proofs.LookWays.{all_made}
use Rattle.session_look.proofs.look_in.Goals as goal

pub look_made-requires : goal.look_made-requires
look_made-requires c =
    let made = c.index_book.ensures in
    all_made _ _ _ _ _ c.requires _ _ _ _ made.rows made.links made.heads made.onward
