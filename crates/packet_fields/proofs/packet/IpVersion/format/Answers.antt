use Rattle.std.proofs.Common.{◌∙◌, ap, Some}
use Rattle.packet_fields.specs.declared.packet.IpVersion.{IpVersion}
use Rattle.packet_fields.specs.declared.packet.IpVersion.TheVariants.{V4, V6}
use Rattle.packet_fields.proofs.Versions.{format_is}
use Rattle.packet_fields.proofs.packet.IpVersion.format.Goals as goal

pub returns-in-V4 : goal.returns-in-V4
returns-in-V4 c = λ packet is. format_is V4 packet (is ∙ ap (λ (v : IpVersion). Some v) c.in-V4.is)

pub returns-in-V6 : goal.returns-in-V6
returns-in-V6 c = λ packet is. format_is V6 packet (is ∙ ap (λ (v : IpVersion). Some v) c.in-V6.is)
