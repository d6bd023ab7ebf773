-- If there is no memory for a piece that was read, that piece too is off the front of the bytes that remained.
use Rattle.std.proofs.Common.{rules, ◌≤◌, ◌+◌, length}
use Rattle.nfp_outside.proofs.Steps.{read_front}
use Rattle.nfp_outside.proofs.whole.read_all.Goals as goal

pub returns-then-is_err-clause-err : goal.returns-then-is_err-clause-err
returns-then-is_err-clause-err g c =
    let room : length c.pieces.all.items + length c.read.new.into ≤ c.args.max + 1 = search rules in
    read_front g.D.Desk.slots c.args.slot c.pieces.all.items c.read.new.into c.args.max c.in-Ok.count c.args.desk.now c.pieces.desk c.read.new.self c.pieces.invariant c.in-Ok.ensures.ok room c.read.ensures.cause.later c.read.ensures.others
