use Rattle.burst_law.proofs.Frames.{functions_walked, fates_walked}
use Rattle.burst_law.proofs.laws.frames_walk_in_bursts.Goals as goal

pub returns : goal.returns
returns g c = record {
  functions = λ b functions packets law. functions_walked b functions packets c.frames_walk_as_fields.ensures law;
  fates = λ b functions packets law. fates_walked b functions packets c.frames_walk_as_fields.ensures law;
}
