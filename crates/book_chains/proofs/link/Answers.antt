-- `link` meets its contract. The loop's invariant: linking the records that are left gives the same chains.
use borrow.Author.Rules.{rules}
use Rattle.spec_limits.specs.Limits.{max_records}
use Rattle.book_chains.proofs.Linking.{lesser, nothing_linked, linked_on, links_told, heads_told, links_long, heads_long}
use Rattle.book_chains.proofs.link.Goals as goal

pub loop-i-init : goal.loop-i-init
unfolding max_records
loop-i-init c = search (rules, lesser, nothing_linked)

pub loop-i-preserved : goal.loop-i-preserved
loop-i-preserved c =
    linked_on _ _ _ _ _ _ _ _ c.loop-i.invariant _ _ _ _ _ _
    c.put_number.ensures
    c.put_number-in-loop-i.ensures
    c.number_at.ensures
    c.key_of-key.ensures
    c.owner_at.ensures
    (search rules)
    (search rules)

pub shape_of-links : goal.shape_of-links
shape_of-links c = search (rules, links_long)

pub shape_of-heads : goal.shape_of-heads
shape_of-heads c = search (rules, heads_long)

pub returns : goal.returns
returns c = search (rules, links_told, heads_told)
