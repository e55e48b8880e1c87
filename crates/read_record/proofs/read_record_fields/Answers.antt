-- `read_record_fields` meets its contract: a law of fieldsAt for each return.
use borrow.Author.Rules.{rules}
use Rattle.read_name.proofs.PlaceLaws.{end_inside}
use Rattle.read_record.proofs.RecordWays.{owner_fault, fields_cut_off, data_cut_off, fields_whole}
use Rattle.read_record.proofs.read_record_fields.Goals as goal

pub returns-in_err-owner_end : goal.returns-in_err-owner_end
returns-in_err-owner_end c = search (rules, owner_fault)

pub overflow_sub-s : goal.overflow_sub-s
overflow_sub-s c = search (rules, end_inside)

pub returns-then-s-owner_end-lt10 : goal.returns-then-s-owner_end-lt10
returns-then-s-owner_end-lt10 c = search (rules, fields_cut_off)

pub returns-then-s-rdata : goal.returns-then-s-rdata
returns-then-s-rdata c = search (rules, data_cut_off)

pub returns : goal.returns
returns c =
    let whole = fields_whole c.args.s.now c.args.at _ c.name_end.ensures _ c.in_ok-owner_end.was _ c.two_octets-length.ensures in
    search (rules, whole)
