-- `compress_in` meets its contract.
use Rattle.std.proofs.Common.{rules}
use Rattle.digest_blocks.proofs.BlockSteps.{block_steps, no_block}
use Rattle.digest_blocks.proofs.compress_in.Goals as goal

pub returns-then-block-OCTETS : goal.returns-then-block-OCTETS
returns-then-block-OCTETS g c = search (rules, no_block)

pub returns : goal.returns
returns g c =
    block_steps _ _ _ _ _ _ _ _ _ (search rules) c.if-block-OCTETS.false c.load.ensures (search rules) c.extend.ensures c.all_rounds.ensures c.add_states.ensures
