use Rattle.std.proofs.Common.{◌∙◌, sym}
use Rattle.frame_walk.proofs.FunctionOnFrame.{mode_moved, mode_shared}
use Rattle.frame_walk.proofs.step.mode.Goals as goal

pub returns-then-has : goal.returns-then-has
returns-then-has c = mode_moved c.args.touch c.args.field (sym c.has.ensures ∙ c.if-has.true)

pub returns-else-has : goal.returns-else-has
returns-else-has c = mode_shared c.args.touch c.args.field (sym c.has.ensures ∙ c.if-has.false)
