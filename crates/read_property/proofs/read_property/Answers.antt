-- `read_property` meets its contract: a law of property_at for each return.
use borrow.Author.Rules.{rules}
use Rattle.read_property.proofs.PropertyPlaces.{data_cut_off, tag_empty, tag_cut_off, property_stands}
use Rattle.read_property.proofs.read_property.Goals as goal
use Rattle.read_property.proofs.read_property.Goals.{then-n-eq0-via-then-n-eq0, then-n-eq0-via-else-n-eq0+then-d-n}

pub returns-then-d-lt2 : goal.returns-then-d-lt2
returns-then-d-lt2 c = search (rules, data_cut_off)

pub returns-then-n-eq0 : goal.returns-then-n-eq0
returns-then-n-eq0 c = elim c.then-n-eq0.branch [
  | then-n-eq0-via-then-n-eq0 w ↦ search (rules, tag_empty)
  | then-n-eq0-via-else-n-eq0+then-d-n w ↦ search (rules, tag_cut_off)
]

pub returns : goal.returns
returns c = search (rules, property_stands)
