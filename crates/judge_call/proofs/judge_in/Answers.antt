-- `judge_in` meets its contract.
use Rattle.judge_call.proofs.TableMade.{made_ready}
use Rattle.judge_call.proofs.judge_in.Goals as goal

pub judge_names-requires : goal.judge_names-requires
judge_names-requires c =
    let made = c.index_book.ensures in
    made_ready _ _ _ _ _ _ _ _ _ c.requires _ _ _ _ made.rows made.links made.heads made.onward
