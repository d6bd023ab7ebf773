use Rattle.packet_fields.proofs.Framing.{tags_whole, framed_between}
use Rattle.packet_fields.proofs.tagging.tags.Goals as goal

pub returns-then-frame-ge14-clause-whole : goal.returns-then-frame-ge14-clause-whole
returns-then-frame-ge14-clause-whole c = tags_whole c.args.frame.now c.packet_place.result c.if-frame-ge14.true c.packet_place.ensures.place

pub returns-then-frame-ge14-clause-framed : goal.returns-then-frame-ge14-clause-framed
returns-then-frame-ge14-clause-framed c = framed_between c.args.frame.now c.packet_place.result c.if-frame-ge14.true c.packet_place.ensures.place
