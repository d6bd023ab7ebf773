use Rattle.std.proofs.Common.{◌-◌, ◌∙◌, ℕ, length, drop, length-take, ap, arith}
use Rattle.demo_capture.specs.DemoFrames.{segment_checksum, written_checksum}
use Rattle.demo_capture.proofs.Sums.{segment_sum_is}
use Rattle.demo_capture.proofs.frame.segment_checksum.Goals as goal

pub sum_words-requires-2 : goal.sum_words-requires-2
sum_words-requires-2 c = omega (arith, length-take (length c.args.frame.now - 34) (drop 34 c.args.frame.now), c.requires.short)

pub returns : goal.returns
unfolding segment_checksum
returns c =
    c.written_checksum.ensures
    ∙ ap (λ (n : ℕ). written_checksum c.args.draws n)
    (c.complement.ensures ∙ segment_sum_is c.args.draws c.pseudo_header.result c.args.frame.now c.sum_words.result c.sum_words-2.result c.pseudo_header.ensures c.requires.blank c.sum_words.ensures.value c.sum_words-2.ensures.value)
