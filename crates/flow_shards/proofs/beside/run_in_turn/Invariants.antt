use Rattle.flow_shards.specs.Working.{AreCounted}
use Rattle.flow_shards.proofs.beside.run_in_turn.Given as goal

-- what was counted so far
abbrev pub invariant-jobs : goal.invariant-jobs
invariant-jobs l = AreCounted l.workers l.sights l.yielded l.counted.items
