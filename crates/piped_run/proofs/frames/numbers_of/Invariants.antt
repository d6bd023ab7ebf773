use Rattle.piped_run.proofs.Framing.{HasNoted}
use Rattle.piped_run.proofs.frames.numbers_of.Given as goal

abbrev pub invariant-loop-item : goal.invariant-loop-item
invariant-loop-item l = HasNoted l.chain l.items l.numbers.items l.item-index
