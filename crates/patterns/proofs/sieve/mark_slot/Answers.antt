use Rattle.std.proofs.Common.{◌*◌, ◌^◌, ◌%◌}
use Rattle.patterns.proofs.Sieving.{slot_grows, slot_marked}
use Rattle.patterns.proofs.sieve.mark_slot.Goals as goal

pub returns-clause-grows : goal.returns-clause-grows
returns-clause-grows c = slot_grows c.args.table.now c.args.slot (1 * 2 ^ c.args.group % 18446744073709551616) c.requires.within

pub returns-clause-marked : goal.returns-clause-marked
returns-clause-marked c = slot_marked c.args.table.now c.args.slot c.args.group c.requires.within c.requires.group
