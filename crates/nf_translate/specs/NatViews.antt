-- For proofs: a view of a packet that has an end to be written.
use Rattle.std.specs.Prelude.{◌≡◌, length}
use Rattle.packet_fields.specs.declared.field.Field.TheVariants.{SrcIp, DstIp, SrcPort, DstPort}
use Rattle.packet_version.specs.Views.{PlainView, HasBytes}

-- it has a source address and a source port
pub record HasSource (view : PlainView) : Type 0 where
  pub address : HasBytes view SrcIp (λ bytes. length bytes ≡ 4)
  pub port : HasBytes view SrcPort (λ bytes. length bytes ≡ 2)

-- it has a destination address and a destination port
pub record HasDestination (view : PlainView) : Type 0 where
  pub address : HasBytes view DstIp (λ bytes. length bytes ≡ 4)
  pub port : HasBytes view DstPort (λ bytes. length bytes ≡ 2)
