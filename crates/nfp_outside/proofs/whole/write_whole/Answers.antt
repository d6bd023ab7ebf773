-- A write appends a prefix of the rest to what was put before.
use Rattle.std.proofs.Common.{rules, ◌<◌, length}
use Rattle.std.proofs.lemmas.List.{take_rest}
use Rattle.nfp_outside.proofs.Steps.{has_written_more, has_written_none}
use Rattle.nfp_outside.proofs.whole.write_whole.Goals as goal

pub pieces-preserved : goal.pieces-preserved
pieces-preserved g c =
    let more : 0 < length c.pieces.rest.now = (let empty = c.is_empty.ensures in let test = c.pieces-test.ensures in search rules) in
    rw (take_rest c.pieces.rest.now c.in-Ok.count) (has_written_more g.D.Desk.slots c.args.slot c.args.bytes.now c.pieces.rest.now c.args.desk.now c.pieces.desk c.write.new.self c.in-Ok.count c.pieces.invariant more c.in-Ok.ensures.ok c.write.ensures.cause.later c.write.ensures.others)

-- Nothing has been put yet.
pub pieces-init : goal.pieces-init
pieces-init g c = has_written_none g.D.Desk.slots c.args.slot c.args.bytes.now c.args.desk.now
