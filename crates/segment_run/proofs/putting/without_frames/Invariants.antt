use Rattle.std.specs.Prelude.{◌≡◌, map, take}
use Rattle.segment_run.specs.Rewriting.{without_frame}
use Rattle.segment_run.proofs.putting.without_frames.Given as goal

abbrev pub invariant-fates : goal.invariant-fates
invariant-fates l = l.fates.items ≡ map without_frame (take l.fate-index l.ended)
