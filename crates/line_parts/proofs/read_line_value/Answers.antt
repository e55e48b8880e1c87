-- `read_line_value` meets its contract: a law of line_value_at for each return.
use borrow.Author.Rules.{rules}
use Rattle.line_parts.proofs.ValuePlaces.{no_value, bare_value, one_quote, open_quote, quoted_value_lem}
use Rattle.line_parts.proofs.read_line_value.Goals as goal

pub returns-then-n-eq0 : goal.returns-then-n-eq0
returns-then-n-eq0 c = search (rules, no_value)

pub returns-then-v-ne34 : goal.returns-then-v-ne34
returns-then-v-ne34 c = search (rules, bare_value)

pub returns-then-n-eq1 : goal.returns-then-n-eq1
returns-then-n-eq1 c = search (rules, one_quote)

pub returns-then-v-end-ne34 : goal.returns-then-v-end-ne34
returns-then-v-end-ne34 c = search (rules, open_quote)

pub returns : goal.returns
returns c = search (rules, quoted_value_lem)
