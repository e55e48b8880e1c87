-- `judge_accepted` meets its contract.
use mathlib.Core.Path.{refl}
use borrow.Author.Rules.{rules}
use Rattle.spec_limits.specs.Limits.{max_records}
use Rattle.book_places.specs.Table.{few_records, short_book}
use Rattle.book_places.specs.Chains.{no_record}
use Rattle.judge_call.proofs.TableMade.{heads_lent, few_fit, all_fit}
use Rattle.judge_call.proofs.judge_accepted.Goals as goal

pub judge_with-requires : goal.judge_with-requires
unfolding max_records few_records short_book no_record
judge_with-requires c = record { lent = search (rules, heads_lent); sizes = (few_fit _ (search rules), refl, refl) }

pub judge_with-requires-2 : goal.judge_with-requires-2
unfolding max_records few_records short_book no_record
judge_with-requires-2 c = record { lent = search (rules, heads_lent); sizes = (all_fit _ (search rules), refl, refl) }
