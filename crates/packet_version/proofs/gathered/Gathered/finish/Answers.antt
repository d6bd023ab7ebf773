use Rattle.std.proofs.Common.{sym, subst}
use Rattle.packet_version.specs.Parts.{as_map}
use Rattle.packet_version.specs.Splitting.{PlainApart, IsWhole, packet_parts}
use Rattle.packet_version.proofs.PartsFitRest.{whole_from}
use Rattle.packet_version.proofs.gathered.Gathered.finish.Goals as goal

pub invariant_of-result : goal.invariant_of-result
invariant_of-result c = whole_from (as_map c.self.inside.held.parts) c.self.inside.held.frame (subst (λ (w : PlainApart). IsWhole (packet_parts w) w.rest) (sym c.self.view_is) c.requires)
