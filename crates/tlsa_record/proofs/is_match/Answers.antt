-- `is_match` meets its contract.
use borrow.Author.Rules.{rules}
use mathlib.Core.Path.{refl}
use Rattle.tlsa_record.proofs.DataTests.{no_data, not_usable, other_usage, by_certificate, by_key}
use Rattle.tlsa_record.proofs.is_match.Goals as goal
use Rattle.tlsa_record.proofs.is_match.Goals.{then-a, else-a}

pub returns-after-a : goal.returns-after-a
returns-after-a c =
    let parts = c.association_part-part.ensures in
    elim c.if-a.branch [
      | then-a w ↦ by_certificate _ _ _ _ _ c.in-Some.ensures _ c.is_usable.ensures c.if-is_usable.true c.if-a-usage.true _ parts _ _ c.args.certificate refl w.if-a.true w.selected-is c.is_same.ensures
      | else-a w ↦ by_key _ _ _ _ _ c.in-Some.ensures _ c.is_usable.ensures c.if-is_usable.true c.if-a-usage.true _ parts _ _ c.args.key refl w.if-a.false w.selected-is c.is_same.ensures
    ]

pub returns-in_default : goal.returns-in_default
returns-in_default c = search (rules, other_usage)

pub returns-in_default-2 : goal.returns-in_default-2
returns-in_default-2 c = search (rules, not_usable)

pub returns-in_default-3 : goal.returns-in_default-3
returns-in_default-3 c = search (rules, no_data)
