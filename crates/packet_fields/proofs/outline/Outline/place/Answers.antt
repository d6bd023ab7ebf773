use Rattle.packet_fields.specs.declared.field.Field.TheVariants.{Tag, Tos, Ttl, SrcIp, DstIp, SrcPort, DstPort, Payload}
use Rattle.packet_fields.proofs.Outlines.{inside_by}
use Rattle.packet_fields.proofs.outline.Outline.place.Goals as goal

pub returns-in-Tag-clause-inside : goal.returns-in-Tag-clause-inside
returns-in-Tag-clause-inside c = inside_by Tag c.args.frame.now c.tag_place.result c.tag_place.ensures

pub returns-in-Tos-clause-inside : goal.returns-in-Tos-clause-inside
returns-in-Tos-clause-inside c = inside_by Tos c.args.frame.now c.tos_place.result c.tos_place.ensures.place

pub returns-in-Ttl-clause-inside : goal.returns-in-Ttl-clause-inside
returns-in-Ttl-clause-inside c = inside_by Ttl c.args.frame.now c.ttl_place.result c.ttl_place.ensures.place

pub returns-in-SrcIp-clause-inside : goal.returns-in-SrcIp-clause-inside
returns-in-SrcIp-clause-inside c = inside_by SrcIp c.args.frame.now c.src_ip_place.result c.src_ip_place.ensures.place

pub returns-in-DstIp-clause-inside : goal.returns-in-DstIp-clause-inside
returns-in-DstIp-clause-inside c = inside_by DstIp c.args.frame.now c.dst_ip_place.result c.dst_ip_place.ensures.place

pub returns-in-SrcPort-clause-inside : goal.returns-in-SrcPort-clause-inside
returns-in-SrcPort-clause-inside c = inside_by SrcPort c.args.frame.now c.port_place.result c.port_place.ensures.place

pub returns-in-DstPort-clause-inside : goal.returns-in-DstPort-clause-inside
returns-in-DstPort-clause-inside c = inside_by DstPort c.args.frame.now c.port_place-in-DstPort.result c.port_place-in-DstPort.ensures.place

pub returns-in-Payload-clause-inside : goal.returns-in-Payload-clause-inside
returns-in-Payload-clause-inside c = inside_by Payload c.args.frame.now c.payload_place.result c.payload_place.ensures.place
