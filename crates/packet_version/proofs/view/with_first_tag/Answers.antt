use Rattle.packet_version.proofs.Tagging.{part_pushed}
use Rattle.packet_version.proofs.view.with_first_tag.Goals as goal

pub returns-clause-tags : goal.returns-clause-tags
returns-clause-tags c = part_pushed c.args.part c.in_ok-part.part c.push_front.new.self c.args.tag c.args.writer c.in_ok-part.was c.push_front.ensures.part c.push_front.ensures.len c.requires.identified c.requires.tags
