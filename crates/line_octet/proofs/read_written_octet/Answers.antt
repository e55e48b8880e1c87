-- `read_written_octet` meets its contract: a law of written_octet_at for each return.
use borrow.Author.Rules.{rules}
use Rattle.line_octet.proofs.UnitPlaces.{unit_cut_off, escape_there, wrong_octet, octet_itself}
use Rattle.line_octet.proofs.read_written_octet.Goals as goal

pub returns-in_err-x : goal.returns-in_err-x
returns-in_err-x c = search (rules, unit_cut_off)

pub returns-then-x-eq92 : goal.returns-then-x-eq92
returns-then-x-eq92 c = search (rules, escape_there)

pub returns-then-not-stands_for_itself : goal.returns-then-not-stands_for_itself
returns-then-not-stands_for_itself c = search (rules, wrong_octet)

pub returns : goal.returns
returns c = search (rules, octet_itself)
