use Rattle.std.proofs.Common.{◌+◌, ◌∙◌, arith}
use borrow.Rule.Slice.PartMut.{drop_put, mid_len}
use Rattle.capture_bytes.proofs.numbers.put_u16.Goals as goal

pub returns-in-Big-clause-rest : goal.returns-in-Big-clause-rest
returns-in-Big-clause-rest c =
    drop_put c.args.at (c.args.at + 2) c.args.bytes.now c.write_u16.new.buf (omega arith) c.requires (c.write_u16.auto.buf ∙ mid_len c.args.at (c.args.at + 2) c.args.bytes.now c.requires)

pub returns-in-Little-clause-rest : goal.returns-in-Little-clause-rest
returns-in-Little-clause-rest c =
    drop_put c.args.at (c.args.at + 2) c.args.bytes.now c.write_u16-in-Little.new.buf (omega arith) c.requires (c.write_u16-in-Little.auto.buf ∙ mid_len c.args.at (c.args.at + 2) c.args.bytes.now c.requires)
