-- `requested_name` meets its contract. The offset of X depends on whether the name is a wildcard.
use native.Mathlib.Nat.{le_of_lt}
use mathlib.Core.Path.{refl}
use mathlib.Core.Logic.{⊎_elim}
use borrow.Author.Rules.{rules}
use borrow.Author.Tests.{not-true, not-false}
use Rattle.read_name.proofs.PlaceLaws.{end_after, end_inside}
use Rattle.read_request.proofs.BasePlaces.{star_place, plain_place, no_name, star_inside, base_inside, asked_fault, asked_good}
use Rattle.read_request.proofs.requested_name.Goals as goal

pub returns-in_err-next : goal.returns-in_err-next
returns-in_err-next c = search (rules, no_name)

pub slice_bounds-is_wildcard-count : goal.slice_bounds-is_wildcard-count
slice_bounds-is_wildcard-count c = search (rules, end_after, le_of_lt)

pub slice_bounds-is_wildcard-start : goal.slice_bounds-is_wildcard-start
slice_bounds-is_wildcard-start c = search (rules, end_after, le_of_lt)

pub slice_bounds-is_wildcard-end : goal.slice_bounds-is_wildcard-end
slice_bounds-is_wildcard-end c = search (rules, end_inside)

pub overflow_add-base : goal.overflow_add-base
overflow_add-base c =
    let inside = star_inside c.is_wildcard-wildcard.ensures _ _ _ _ c.name_end.ensures c.in_ok-next.was refl c.if-wildcard.true in
    search rules

pub slice_bounds-are_host_labels-count : goal.slice_bounds-are_host_labels-count
slice_bounds-are_host_labels-count c =
    let told = c.in_ok-next.was in
    let inside = base_inside c.is_wildcard-wildcard.ensures in
    ⊎_elim (λ p. search (inside, told, star_place)) (λ q. search (inside, told, plain_place)) c.if-wildcard.branch-raw

pub slice_bounds-are_host_labels-start : goal.slice_bounds-are_host_labels-start
slice_bounds-are_host_labels-start c =
    let told = c.in_ok-next.was in
    let inside = base_inside c.is_wildcard-wildcard.ensures in
    ⊎_elim (λ p. search (inside, told, star_place)) (λ q. search (inside, told, plain_place)) c.if-wildcard.branch-raw

pub slice_bounds-are_host_labels-end : goal.slice_bounds-are_host_labels-end
slice_bounds-are_host_labels-end c = search (rules, end_inside)

pub returns-then-not-are_host_labels : goal.returns-then-not-are_host_labels
returns-then-not-are_host_labels c =
    let told = c.in_ok-next.was in
    let asked = asked_fault c.is_wildcard-wildcard.ensures c.are_host_labels.ensures c.if-wildcard.base in
    ⊎_elim (λ p. search (asked, told, star_place, not-true)) (λ q. search (asked, told, plain_place, not-true)) c.if-wildcard.branch-raw

pub returns : goal.returns
returns c =
    let told = c.in_ok-next.was in
    let asked = asked_good c.is_wildcard-wildcard.ensures c.are_host_labels.ensures c.if-wildcard.base in
    ⊎_elim (λ p. search (asked, told, star_place, not-false)) (λ q. search (asked, told, plain_place, not-false)) c.if-wildcard.branch-raw
