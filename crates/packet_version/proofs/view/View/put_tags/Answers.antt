use Rattle.std.proofs.Common.{arith, refl}
use Rattle.std.specs.Prelude.{None}
use Rattle.packet_fields.specs.declared.field.Field.TheVariants.{Tag}
use Rattle.packet_version.proofs.Forming.{tags_formed}
use Rattle.packet_version.proofs.PartsOfBranch.{tags_beside, had_as, had_beside, own_inside}
use Rattle.packet_version.proofs.Viewing.{view_writes, put_seen_beside}
use Rattle.packet_version.proofs.view.View.put_tags.Goals as goal

pub index_mut-requires : goal.index_mut-requires
index_mut-requires c =
    let within = c.self.inside.within in
    let own = c.self.inside.own.items in
    let lent = c.self.inside.lent in
    let touch = c.self.inside.touch in
    let fixed = c.self.inside.fixed in
    let profile = c.self.inside.profile in
    let position = c.self.inside.position in
    let old = c.args.self.now in
    let f = Tag in
    let w = view_writes within own lent f touch fixed profile position old c.requires.written c.self.invariant c.self.view_is in
    let none = tags_beside touch within own lent w c.self.invariant.had in
    let below = own_inside touch own lent c.number.result f c.number.ensures.below w (had_as touch within None own lent none c.self.invariant.had) in omega (arith, c.self.inside.own.ok.0)

pub invariant_of-self : goal.invariant_of-self
invariant_of-self c =
    let within = c.self.inside.within in
    let own = c.self.inside.own.items in
    let lent = c.self.inside.lent in
    let touch = c.self.inside.touch in
    let fixed = c.self.inside.fixed in
    let profile = c.self.inside.profile in
    let position = c.self.inside.position in
    let old = c.args.self.now in
    let f = Tag in
    let w = view_writes within own lent f touch fixed profile position old c.requires.written c.self.invariant c.self.view_is in
    let none = tags_beside touch within own lent w c.self.invariant.had in
    record {
      had = had_beside touch within own lent c.number.result f c.args.part none c.number.ensures.number c.number.ensures.below w (tags_formed f c.args.part refl c.requires.tags) c.self.invariant.had;
      holds = c.self.invariant.holds;
    }

pub returns : goal.returns
returns c =
    let within = c.self.inside.within in
    let own = c.self.inside.own.items in
    let lent = c.self.inside.lent in
    let touch = c.self.inside.touch in
    let fixed = c.self.inside.fixed in
    let profile = c.self.inside.profile in
    let position = c.self.inside.position in
    let old = c.args.self.now in
    let f = Tag in
    let w = view_writes within own lent f touch fixed profile position old c.requires.written c.self.invariant c.self.view_is in
    let none = tags_beside touch within own lent w c.self.invariant.had in
    put_seen_beside within own lent c.number.result f c.args.part touch fixed profile position old none c.number.ensures.number c.number.ensures.below w c.self.invariant c.self.view_is
