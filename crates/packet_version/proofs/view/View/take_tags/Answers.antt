use Rattle.std.proofs.Common.{arith, ◌∙◌, ap, sym, subst, refl}
use Rattle.std.specs.Prelude.{Option, None}
use Rattle.packet_fields.specs.declared.field.Field.TheVariants.{Tag}
use Rattle.packet_version.specs.Parts.{PlainPart, IsPartOf}
use Rattle.packet_version.proofs.Forming.{formed_tags}
use Rattle.packet_version.proofs.PartsOfBranch.{tags_beside, had_as, had_beside, own_inside, with_seen}
use Rattle.packet_version.proofs.Viewing.{view_writes, seen_beside, seen_formed, put_seen_beside}
use Rattle.packet_version.proofs.view.View.take_tags.Goals as goal

pub index_mut-requires : goal.index_mut-requires
index_mut-requires c =
    let within = c.self.inside.within in
    let own = c.self.inside.own.items in
    let lent = c.self.inside.lent in
    let touch = c.self.inside.touch in
    let fixed = c.self.inside.fixed in
    let profile = c.self.inside.profile in
    let position = c.self.inside.position in
    let old = c.args.self.now in
    let f = Tag in
    let w = view_writes within own lent f touch fixed profile position old c.requires.written c.self.invariant c.self.view_is in
    let none = tags_beside touch within own lent w c.self.invariant.had in
    let below = own_inside touch own lent c.number.result f c.number.ensures.below w (had_as touch within None own lent none c.self.invariant.had) in omega (arith, c.self.inside.own.ok.0)

pub invariant_of-self : goal.invariant_of-self
invariant_of-self c =
    let within = c.self.inside.within in
    let own = c.self.inside.own.items in
    let lent = c.self.inside.lent in
    let touch = c.self.inside.touch in
    let fixed = c.self.inside.fixed in
    let profile = c.self.inside.profile in
    let position = c.self.inside.position in
    let old = c.args.self.now in
    let f = Tag in
    let w = view_writes within own lent f touch fixed profile position old c.requires.written c.self.invariant c.self.view_is in
    let none = tags_beside touch within own lent w c.self.invariant.had in
    record {
      had = had_beside touch within own lent c.number.result f c.replace.new.dest none c.number.ensures.number c.number.ensures.below w (subst (IsPartOf f) (sym c.replace.ensures.after) tt) c.self.invariant.had;
      holds = c.self.invariant.holds;
    }

pub returns-clause-part : goal.returns-clause-part
returns-clause-part c =
    let within = c.self.inside.within in
    let own = c.self.inside.own.items in
    let lent = c.self.inside.lent in
    let touch = c.self.inside.touch in
    let fixed = c.self.inside.fixed in
    let profile = c.self.inside.profile in
    let position = c.self.inside.position in
    let old = c.args.self.now in
    let f = Tag in
    let w = view_writes within own lent f touch fixed profile position old c.requires.written c.self.invariant c.self.view_is in
    let none = tags_beside touch within own lent w c.self.invariant.had in
    let read = seen_beside within own lent c.number.result f c.index_mut.result.now touch fixed profile position old none c.index_mut.ensures.value c.number.ensures.number c.number.ensures.below w c.self.invariant c.self.view_is in
    c.replace.ensures.value ∙ sym read

pub returns-clause-left : goal.returns-clause-left
returns-clause-left c =
    let within = c.self.inside.within in
    let own = c.self.inside.own.items in
    let lent = c.self.inside.lent in
    let touch = c.self.inside.touch in
    let fixed = c.self.inside.fixed in
    let profile = c.self.inside.profile in
    let position = c.self.inside.position in
    let old = c.args.self.now in
    let f = Tag in
    let w = view_writes within own lent f touch fixed profile position old c.requires.written c.self.invariant c.self.view_is in
    let none = tags_beside touch within own lent w c.self.invariant.had in
    put_seen_beside within own lent c.number.result f c.replace.new.dest touch fixed profile position old none c.number.ensures.number c.number.ensures.below w c.self.invariant c.self.view_is
    ∙ ap (λ (o : Option PlainPart). with_seen f o old) c.replace.ensures.after

pub returns-clause-tags : goal.returns-clause-tags
returns-clause-tags c =
    let within = c.self.inside.within in
    let own = c.self.inside.own.items in
    let lent = c.self.inside.lent in
    let touch = c.self.inside.touch in
    let fixed = c.self.inside.fixed in
    let profile = c.self.inside.profile in
    let position = c.self.inside.position in
    let old = c.args.self.now in
    let f = Tag in
    let w = view_writes within own lent f touch fixed profile position old c.requires.written c.self.invariant c.self.view_is in
    let none = tags_beside touch within own lent w c.self.invariant.had in
    let read = seen_beside within own lent c.number.result f c.index_mut.result.now touch fixed profile position old none c.index_mut.ensures.value c.number.ensures.number c.number.ensures.below w c.self.invariant c.self.view_is in
    let formed = seen_formed within own lent touch fixed profile position old c.self.invariant c.self.view_is f in
    formed_tags f c.replace.result refl (subst (IsPartOf f) (read ∙ sym c.replace.ensures.value) formed)
