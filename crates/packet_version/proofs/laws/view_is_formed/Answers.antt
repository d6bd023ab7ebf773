use Rattle.packet_version.specs.Views.{seen_parts}
use Rattle.packet_version.proofs.Forming.{values_formed}
use Rattle.packet_version.proofs.Viewing.{seen_formed}
use Rattle.packet_version.proofs.laws.view_is_formed.Goals as goal

pub returns : goal.returns
returns c = values_formed (seen_parts c.args.view.now) (seen_formed c.view.inside.within c.view.inside.own.items c.view.inside.lent c.view.inside.touch c.view.inside.fixed c.view.inside.profile c.view.inside.position c.args.view.now c.view.invariant c.view.view_is)
