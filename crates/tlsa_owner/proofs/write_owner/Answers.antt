-- `write_owner` meets its contract: laws of write_owner for each return.
use borrow.Author.Tests.{not-true, not-false}
use borrow.Author.Rules.{rules}
use Rattle.tlsa_owner.proofs.OwnerWays.{refused_answer, refused_octets, sum_2_fits, sum_3_fits, sum_4_fits, long_answer, long_octets, owner_short, tight_answer, tight_octets, owner_room, written_answer, written_octets}
use Rattle.tlsa_owner.proofs.write_owner.Goals as goal

pub returns-then-not-is_service : goal.returns-then-not-is_service
returns-then-not-is_service c = search (rules, refused_answer, refused_octets, not-true)

pub overflow_add-n : goal.overflow_add-n
overflow_add-n c = search (rules, sum_2_fits, not-false)

pub overflow_add-n-2 : goal.overflow_add-n-2
overflow_add-n-2 c = search (rules, sum_3_fits, not-false)

pub overflow_add-n-3 : goal.overflow_add-n-3
overflow_add-n-3 c = search (rules, sum_4_fits, not-false)

pub returns-then-n-gt-MAX_NAME_OCTETS : goal.returns-then-n-gt-MAX_NAME_OCTETS
returns-then-n-gt-MAX_NAME_OCTETS c = search (rules, long_answer, long_octets, not-false)

pub returns-then-buffer-n : goal.returns-then-buffer-n
returns-then-buffer-n c = search (rules, tight_answer, tight_octets, not-false)

pub put_owner-requires : goal.put_owner-requires
put_owner-requires c = search (rules, owner_short, owner_room, not-false)

pub returns : goal.returns
returns c = search (rules, written_answer, written_octets, not-false)
