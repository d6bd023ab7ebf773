use Rattle.packet_version.proofs.Tagging.{part_tagged, part_popped}
use Rattle.packet_version.proofs.view.without_first_tag.Goals as goal

pub pop_front-requires : goal.pop_front-requires
pop_front-requires c = part_tagged c.args.part c.in_ok-part.part c.in_ok-part.was c.requires.tagged c.requires.tags

pub returns-clause-tags : goal.returns-clause-tags
returns-clause-tags c = part_popped c.args.part c.in_ok-part.part c.pop_front.new.self c.args.writer c.in_ok-part.was c.pop_front.ensures c.requires.tags
