-- One more byte of the piece is weighed.
use Rattle.std.proofs.Common.{◌≡◌, ◌+◌, ◌<◌, ◌∙◌, length, refl, ap, sym, arith, slice_index_or}
use Rattle.nfp_outside.specs.Weights.{heavier, with_byte}
use Rattle.nfp_outside.proofs.Weighing.{heavier_byte}
use Rattle.nfp_outside.proofs.weight.Weight.with.Goals as goal

pub loop-byte-init : goal.loop-byte-init
unfolding heavier
loop-byte-init c = (refl, omega arith)

pub loop-byte-preserved : goal.loop-byte-preserved
loop-byte-preserved c =
    let at = c.loop-byte.byte-index in
    let inside : at < length c.args.more.now = c.loop-byte-test.true in
    let before = c.loop-byte.invariant in
    let one : c.with_byte-weight.result.bytes ≡ c.loop-byte.weight.bytes + 1 = ap (λ w. w.bytes) c.with_byte-weight.ensures in (
      c.with_byte-weight.ensures ∙ ap (λ w. with_byte w (slice_index_or c.args.more.now at 0)) before.0 ∙ sym (heavier_byte c.args.more.now at 0 c.args.self inside),
      (let counted = before.1 in omega arith),
    )
