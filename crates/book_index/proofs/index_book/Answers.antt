-- `index_book` meets its contract.
use Rattle.book_index.proofs.Indexed.{links_made, heads_made, onward_made}
use Rattle.book_index.proofs.index_book.Goals as goal

pub returns : goal.returns
returns c =
    let filled = c.fill_table-n.ensures in
    let linked = c.link.ensures in
    let links = links_made _ _ _ _ _ filled.rows filled.answer _ linked.links in
    let heads = heads_made _ _ _ _ _ filled.rows filled.answer _ linked.heads in
    record {
      rows = filled.rows;
      links = links;
      heads = heads;
      onward = onward_made _ _ _ _ _ filled.rows filled.answer _ _ _ _ links heads c.point_aliases.ensures;
    }
