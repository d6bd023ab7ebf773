use Rattle.std.proofs.Common.{sym}
use Rattle.packet_fields.specs.declared.field.Field.TheVariants.{Tag}
use Rattle.packet_fields.proofs.Laws.{put_own}
use Rattle.packet_version.proofs.rest.Rest.put_tags.Goals as goal

pub returns-then-has_tags : goal.returns-then-has_tags
returns-then-has_tags c = sym (put_own Tag c.args.self.now c.args.list.now (c.has_tags.ensures c.if-has_tags.true))
