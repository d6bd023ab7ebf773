use Rattle.piece_walk.proofs.Growing.{frames_grow}
use Rattle.piece_walk.proofs.laws.frames_grow_little.Goals as goal

pub returns : goal.returns
returns g c = λ b pieces ps most keeps little short. frames_grow b pieces ps most keeps little short
