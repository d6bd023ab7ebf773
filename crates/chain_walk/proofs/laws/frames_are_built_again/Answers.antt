use Rattle.chain_walk.specs.Shown.{fixed_of}
use Rattle.packet_fields.specs.Writing.{fields_of}
use Rattle.chain_walk.proofs.FrameWalkIsFieldWalk.{own_filled, ends_filled, built_again}
use Rattle.chain_walk.proofs.laws.frames_are_built_again.Goals as goal

pub returns : goal.returns
returns g c = λ b time position functions frame after keeps is. built_again after frame (ends_filled b (fixed_of time frame) position functions (fields_of frame) after frame keeps (own_filled frame) is)
