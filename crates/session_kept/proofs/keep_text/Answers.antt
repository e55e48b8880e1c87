-- `keep_text` meets its contract.
use borrow.Author.Rules.{rules}
use Rattle.session_kept.proofs.CopiedTexts.{kept_whole}
use Rattle.session_kept.proofs.keep_text.Goals as goal

pub returns : goal.returns
returns c = search (rules, kept_whole)
