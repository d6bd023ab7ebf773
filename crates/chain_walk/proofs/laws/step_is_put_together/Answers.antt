use Rattle.chain_walk.specs.Shown.{fixed_of}
use Rattle.chain_walk.proofs.FrameWalkIsFieldWalk.{put_together}
use Rattle.chain_walk.proofs.laws.step_is_put_together.Goals as goal

pub returns : goal.returns
returns g c = λ b time f frame keeps. put_together b (fixed_of time frame) f frame keeps
