-- `put_length` meets its contract.
use borrow.Author.Rules.{rules}
use Rattle.text_buffer.proofs.LentRest.{set_kept}
use Rattle.digest_padding.proofs.PaddingWrites.{length_put}
use Rattle.digest_padding.proofs.put_length.Goals as goal

pub shape_of-out : goal.shape_of-out
shape_of-out c = search (rules, set_kept)

pub returns : goal.returns
returns c = search (rules, length_put)
