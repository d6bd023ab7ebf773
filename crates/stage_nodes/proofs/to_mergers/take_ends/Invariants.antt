use Rattle.std.proofs.Common.{◌≡◌}
use Rattle.stage_nodes.proofs.Sweeps.{swept, fronts_to}
use Rattle.stage_nodes.proofs.to_mergers.take_ends.Given as goal

abbrev pub invariant-loop-index : goal.invariant-loop-index
invariant-loop-index l = (l.rows ≡ swept l.index l.fn.rows) × (l.row ≡ fronts_to l.index l.fn.rows)
