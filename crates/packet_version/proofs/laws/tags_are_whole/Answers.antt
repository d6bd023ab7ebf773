use Rattle.std.proofs.Common.{sym, subst, refl}
use Rattle.packet_fields.specs.declared.field.Field.TheVariants.{Tag}
use Rattle.packet_version.specs.Parts.{Parts, IsPartOf}
use Rattle.packet_version.specs.Versions.{version_parts}
use Rattle.packet_version.proofs.Forming.{formed_tags}
use Rattle.packet_version.proofs.PartsOfBranch.{parts_are}
use Rattle.packet_version.proofs.laws.tags_are_whole.Goals as goal

pub returns : goal.returns
returns c =
    let is = parts_are c.version.inside.within c.version.inside.own.items c.version.inside.lent c.version.inside.touch c.version.inside.fixed c.args.version.now c.version.view_is in
    formed_tags Tag (version_parts c.args.version.now Tag) refl (subst (λ (m : Parts). IsPartOf Tag (m Tag)) (sym is) (c.version.invariant.formed Tag))
