-- `put_line` meets its contract.
use borrow.Author.Rules.{rules}
use Rattle.line_property.proofs.LineParts.{head_room, quoted_from, quoted_room, line_fits, line_put}
use Rattle.line_property.proofs.put_line.Goals as goal

pub put_head-w-requires : goal.put_head-w-requires
put_head-w-requires c = search (rules, head_room)

pub slice_bounds-put_quoted-count : goal.slice_bounds-put_quoted-count
slice_bounds-put_quoted-count c = search (rules, quoted_from)

pub slice_bounds-put_quoted-start : goal.slice_bounds-put_quoted-start
slice_bounds-put_quoted-start c = search (rules, quoted_from)

pub put_quoted-requires : goal.put_quoted-requires
put_quoted-requires c = search (rules, quoted_room)

pub overflow_add-result : goal.overflow_add-result
overflow_add-result c = search (rules, line_fits)

pub returns : goal.returns
returns c = search (rules, line_put)
