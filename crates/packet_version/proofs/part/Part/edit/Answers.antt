use Rattle.std.proofs.Common.{refl, ap, ◌∙◌}
use Rattle.packet_version.specs.Parts.{PlainPart}
use Rattle.packet_version.specs.Lending.{over}
use Rattle.packet_version.proofs.part.Part.edit.Goals as goal

pub returns : goal.returns
returns c = (
  (
    refl,
    λ w. ap (λ (p : PlainPart). let q : PlainPart = record { bytes = over w p.bytes; writer = c.args.writer; room = p.room } in q) c.self.view_is,
  ),
  record { writes_back = tt; bytes = c.as_mut_slice.ensures.value ∙ ap (λ (p : PlainPart). p.bytes) c.self.view_is },
)
