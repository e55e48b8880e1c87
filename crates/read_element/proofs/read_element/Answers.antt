-- `read_element` meets its contract: a law of element_at for each return.
use borrow.Author.Rules.{rules}
use Rattle.read_element.proofs.ElementPlaces.{nothing_left, long_tag_lem, length_fault, length_inside, contents_cut_off, element_read}
use Rattle.read_element.proofs.read_element.Goals as goal

pub returns-in_err-tag : goal.returns-in_err-tag
returns-in_err-tag c = search (rules, nothing_left)

pub returns-then-tag-eq31 : goal.returns-then-tag-eq31
returns-then-tag-eq31 c = search (rules, long_tag_lem)

pub returns-in_err-l : goal.returns-in_err-l
returns-in_err-l c = search (rules, length_fault)

pub overflow_sub-s : goal.overflow_sub-s
overflow_sub-s c = search (rules, length_inside)

pub returns-then-s-contents : goal.returns-then-s-contents
returns-then-s-contents c = search (rules, contents_cut_off)

pub returns : goal.returns
returns c = search (rules, element_read)
