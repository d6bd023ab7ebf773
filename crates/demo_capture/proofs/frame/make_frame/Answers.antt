use Rattle.std.proofs.Common.{◌∙◌, List, ℕ, length, ap, arith}
use Rattle.demo_capture.proofs.Lengths.{frame_long, frame_short}
use Rattle.demo_capture.proofs.frame.make_frame.Goals as goal

pub segment_checksum-checksum-requires-clause-long : goal.segment_checksum-checksum-requires-clause-long
segment_checksum-checksum-requires-clause-long c = omega (arith, ap (λ (xs : List ℕ). length xs) (c.deref.ensures.value ∙ c.in_ok-bytes.ensures), frame_long 0 c.args.draws)

pub segment_checksum-checksum-requires-clause-short : goal.segment_checksum-checksum-requires-clause-short
segment_checksum-checksum-requires-clause-short c = omega (arith, ap (λ (xs : List ℕ). length xs) (c.deref.ensures.value ∙ c.in_ok-bytes.ensures), frame_short 0 c.args.draws)
