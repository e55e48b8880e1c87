-- `judge_by_set` meets its contract.
use borrow.Author.Rules.{rules}
use Rattle.judge_set.proofs.SetVerdicts.{by_unrestricted, by_critical, by_alias, by_grant, by_no_grant}
use Rattle.judge_set.proofs.judge_by_set.Goals as goal

pub returns-then-any_grants : goal.returns-then-any_grants
returns-then-any_grants c = search (rules, by_grant)

pub returns-in-Unrestricted : goal.returns-in-Unrestricted
returns-in-Unrestricted c = search (rules, by_unrestricted)

pub returns-in-Forbidden : goal.returns-in-Forbidden
returns-in-Forbidden c = search (rules, by_critical)

pub returns-in-Unresolved : goal.returns-in-Unresolved
returns-in-Unresolved c = search (rules, by_alias)

pub returns-else-any_grants : goal.returns-else-any_grants
returns-else-any_grants c = search (rules, by_no_grant)
