use Rattle.std.proofs.Common.{◌∙◌, sym, refl, subst}
use Rattle.std.specs.Prelude.{option_map}
use Rattle.packet_version.specs.Parts.{IsPartOf}
use Rattle.packet_version.specs.Lending.{edited}
use Rattle.packet_version.proofs.Forming.{edited_formed}
use Rattle.packet_version.proofs.PartsOfBranch.{had_beside}
use Rattle.packet_version.proofs.Viewing.{view_writes, not_some, seen_beside, seen_formed, had_left, left_in_packet, lent_in_packet, left_beside, lent_seen}
use Rattle.packet_version.proofs.view.View.edit.Goals as goal

pub invariant_of-self-lent : goal.invariant_of-self-lent
invariant_of-self-lent c =
    let within = c.self.inside.within in
    let own = c.self.inside.own.items in
    let lent = c.self.inside.lent in
    let touch = c.self.inside.touch in
    let fixed = c.self.inside.fixed in
    let profile = c.self.inside.profile in
    let position = c.self.inside.position in
    let old = c.args.self.now in
    let f = c.args.field in
    let w = view_writes within own lent f touch fixed profile position old c.requires.written c.self.invariant c.self.view_is in
    let some = sym c.is_some.ensures ∙ c.if-is_some.true in
    λ b. record { had = had_left touch within own lent f b position some c.requires.not_tag w c.self.invariant.had; holds = c.self.invariant.holds }

pub returns-then-is_some : goal.returns-then-is_some
returns-then-is_some c =
    let within = c.self.inside.within in
    let own = c.self.inside.own.items in
    let lent = c.self.inside.lent in
    let touch = c.self.inside.touch in
    let fixed = c.self.inside.fixed in
    let profile = c.self.inside.profile in
    let position = c.self.inside.position in
    let old = c.args.self.now in
    let f = c.args.field in
    let w = view_writes within own lent f touch fixed profile position old c.requires.written c.self.invariant c.self.view_is in
    let some = sym c.is_some.ensures ∙ c.if-is_some.true in (
      (refl, λ b. left_in_packet within own lent f b touch fixed profile position old some w c.self.view_is),
      record { writes_back = tt; bytes = lent_in_packet within own lent f c.edit_within.result.now touch fixed profile position old some w c.edit_within.ensures.bytes c.self.view_is },
    )

pub invariant_of-self-lent-2 : goal.invariant_of-self-lent-2
invariant_of-self-lent-2 c =
    let within = c.self.inside.within in
    let own = c.self.inside.own.items in
    let lent = c.self.inside.lent in
    let touch = c.self.inside.touch in
    let fixed = c.self.inside.fixed in
    let profile = c.self.inside.profile in
    let position = c.self.inside.position in
    let old = c.args.self.now in
    let f = c.args.field in
    let w = view_writes within own lent f touch fixed profile position old c.requires.written c.self.invariant c.self.view_is in
    let none = not_some within (sym c.is_some.ensures ∙ c.if-is_some.false) in
    let part = c.index_mut-part.result.now in
    let read = seen_beside within own lent c.number.result f part touch fixed profile position old none c.index_mut-part.ensures.value c.number.ensures.number c.number.ensures.below w c.self.invariant c.self.view_is in
    let formed = subst (IsPartOf f) read (seen_formed within own lent touch fixed profile position old c.self.invariant c.self.view_is f) in
    λ b. record {
      had = had_beside touch within own lent c.number.result f (option_map (edited b position) part) none c.number.ensures.number c.number.ensures.below w (edited_formed f part b position c.requires.not_tag formed) c.self.invariant.had;
      holds = c.self.invariant.holds;
    }

pub returns : goal.returns
returns c =
    let within = c.self.inside.within in
    let own = c.self.inside.own.items in
    let lent = c.self.inside.lent in
    let touch = c.self.inside.touch in
    let fixed = c.self.inside.fixed in
    let profile = c.self.inside.profile in
    let position = c.self.inside.position in
    let old = c.args.self.now in
    let f = c.args.field in
    let w = view_writes within own lent f touch fixed profile position old c.requires.written c.self.invariant c.self.view_is in
    let none = not_some within (sym c.is_some.ensures ∙ c.if-is_some.false) in
    let part = c.index_mut-part.result.now in
    let read = seen_beside within own lent c.number.result f part touch fixed profile position old none c.index_mut-part.ensures.value c.number.ensures.number c.number.ensures.below w c.self.invariant c.self.view_is in (
      (refl, λ b. left_beside within own lent c.number.result f part b touch fixed profile position old none c.index_mut-part.ensures.value c.number.ensures.number c.number.ensures.below w c.self.invariant c.self.view_is),
      record { writes_back = tt; bytes = lent_seen f part c.edit_part.result.now old read c.requires.present c.edit_part.ensures.bytes },
    )
