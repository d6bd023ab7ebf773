use Rattle.std.proofs.Common.{◌≡◌, ◌∙◌, ap, length, sym}
use Rattle.packet_fields.specs.Checksums.{sealed}
use Rattle.segment_run.proofs.GoingOn.{written_over}
use Rattle.segment_run.proofs.sealing.seal_frame.Goals as goal

pub returns-then-is_sealed : goal.returns-then-is_sealed
returns-then-is_sealed c = let frame_is : c.bytes.result.now ≡ c.args.frame = c.bytes.ensures in
    sym frame_is ∙ sym (c.is_sealed.ensures c.if-is_sealed.true) ∙ ap (sealed c.args.before.now) frame_is

pub returns : goal.returns
returns c =
    let taken : c.deref_mut.result.now ≡ c.args.frame = c.deref_mut.ensures.value ∙ c.into_bytes-bytes.ensures in
    written_over c.new.result c.seal.new.after c.into_bytes-bytes.result.items c.into_bytes-bytes.result.len c.new.ensures c.into_bytes-bytes.result.ok.0 (c.seal.auto.after ∙ ap length c.deref_mut.ensures.value)
    ∙ c.seal.ensures.sealed ∙ ap (sealed c.args.before.now) taken
