-- A list made field by field, read as a map.
use Rattle.std.proofs.Common.{◌≡◌, refl}
use mathlib.Core.Path.{fun_ext}
use Rattle.packet_fields.specs.declared.field.Field.{Field}
use Rattle.packet_fields.specs.declared.field.Field.TheVariants.{LinkDst, LinkSrc, Tag, Tos, Ttl, SrcIp, DstIp, SrcPort, DstPort, Payload}
use Rattle.packet_version.specs.Parts.{Parts, as_map, as_list}

at_field : (g : Parts) (f : Field) → as_map (as_list g) f ≡ g f
at_field g LinkDst = refl
at_field g LinkSrc = refl
at_field g Tag = refl
at_field g Tos = refl
at_field g Ttl = refl
at_field g SrcIp = refl
at_field g DstIp = refl
at_field g SrcPort = refl
at_field g DstPort = refl
at_field g Payload = refl

pub map_of_list : (g : Parts) → as_map (as_list g) ≡ g
map_of_list g = fun_ext (λ f. at_field g f)
