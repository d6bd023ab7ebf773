use Rattle.std.proofs.Common.{◌≤◌, ◌-◌, length, take}
use Rattle.graph_run.specs.Leading.{Leads}
use Rattle.graph_run.specs.Packets.{packets_taken}
use Rattle.piped_run.proofs.piped.run_pieces.Given as goal

-- the pieces so far have run
abbrev pub invariant-pieces : goal.invariant-pieces
invariant-pieces g l = record {
  inside : l.start ≤ length l.items;
  led : Leads g.F.Function.behaviour l.fn.run (packets_taken l.unit l.chain (take l.start l.items)) l.fn.tally l.tally l.run l.fates.items;
}

abbrev pub decreases-pieces : goal.decreases-pieces
decreases-pieces g l = length l.items - l.start
