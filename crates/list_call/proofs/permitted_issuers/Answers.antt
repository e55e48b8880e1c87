-- `permitted_issuers` meets its contract.
use mathlib.Core.Path.{refl}
use borrow.Author.Rules.{rules}
use Rattle.spec_limits.specs.Limits.{max_records}
use Rattle.book_places.specs.Table.{few_records, short_book}
use Rattle.book_places.specs.Chains.{no_record}
use Rattle.list_call.proofs.CallWays.{by_clause, call_refused, heads_lent, few_fit, all_fit}
use Rattle.list_call.proofs.permitted_issuers.Goals as goal

pub returns-in-Err : goal.returns-in-Err
returns-in-Err c = by_clause _ _ _ _ (search (rules, call_refused))

pub list_with-requires : goal.list_with-requires
unfolding max_records few_records short_book no_record
list_with-requires c = record {
  lent = heads_lent _ _ _ _ c.check_list_inputs.ensures (search rules) _ refl;
  sizes = (few_fit _ (search rules), refl, refl);
}

pub list_with-requires-2 : goal.list_with-requires-2
unfolding max_records few_records short_book no_record
list_with-requires-2 c = record {
  lent = heads_lent _ _ _ _ c.check_list_inputs.ensures (search rules) _ refl;
  sizes = (all_fit _ (search rules), refl, refl);
}
