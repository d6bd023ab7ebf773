use Rattle.std.proofs.Common.{◌<◌, length, arith}
use Rattle.capture_bytes.specs.FillingLaws.{put_end, room_of}
use Rattle.capture_bytes.proofs.Pieces.{filled_more, fills_end}
use Rattle.capture_bytes.proofs.filling.fill.Goals as goal

pub returns-then-count-eq0-clause-ok : goal.returns-then-count-eq0-clause-ok
returns-then-count-eq0-clause-ok g c =
    let room = room_of c.pieces.done c.pieces.into c.read.new.into c.pieces.invariant.within c.read.auto.into in
    let some : 0 < length c.read.new.into = omega (arith, room) in
    rw (put_end c.pieces.done c.pieces.into c.read.new.into c.pieces.invariant.within room)
    (fills_end g.D.Desk.slots c.pieces.into c.read.new.into c.pieces.done c.args.desk.now c.pieces.desk c.read.new.self c.pieces.invariant room some (rw c.if-count-eq0.true at c.in-Ok.ensures.ok))

pub pieces-preserved : goal.pieces-preserved
pieces-preserved g c =
    let room = room_of c.pieces.done c.pieces.into c.read.new.into c.pieces.invariant.within c.read.auto.into in
    rw (put_end c.pieces.done c.pieces.into c.read.new.into c.pieces.invariant.within room)
    (filled_more g.D.Desk.slots c.pieces.into c.read.new.into c.pieces.done c.in-Ok.count c.args.desk.now c.pieces.desk c.read.new.self c.pieces.invariant room c.in-Ok.ensures.ok c.read.ensures.cause.later c.read.ensures.others)
