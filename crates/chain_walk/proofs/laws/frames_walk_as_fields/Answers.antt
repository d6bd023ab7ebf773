use Rattle.chain_walk.proofs.FrameWalkIsFieldWalk.{walks_as_fields}
use Rattle.chain_walk.proofs.laws.frames_walk_as_fields.Goals as goal

pub returns : goal.returns
returns g c = λ b time position functions frame keeps. walks_as_fields b time position functions frame keeps
