use Rattle.std.proofs.Common.{◌-◌, sym, arith}
use Rattle.std.proofs.Math.Nat.{div-le_self}
use Rattle.node_run.proofs.Shares.{none_shared, shared_by}
use Rattle.node_run.proofs.fans.share_count.Goals as goal

pub returns-then-count-merger-clause-share : goal.returns-then-count-merger-clause-share
returns-then-count-merger-clause-share c = sym (none_shared c.args.mergers c.args.merger c.args.count (omega arith))

pub returns-clause-share : goal.returns-clause-share
returns-clause-share c = sym (shared_by c.args.mergers c.args.merger c.args.count c.requires (omega arith))

pub returns-clause-few : goal.returns-clause-few
returns-clause-few c = let h = div-le_self (c.args.count - c.args.merger - 1) c.args.mergers in omega arith
