use Rattle.std.proofs.Common.{◌∙◌, ap, sym, subst}
use Rattle.std.specs.Prelude.{Option, None}
use Rattle.packet_version.specs.Parts.{PlainPart, IsPartOf}
use Rattle.packet_version.specs.Versions.{with_part}
use Rattle.packet_version.proofs.PartsOfBranch.{writes_is, changed_to, put_beside, had_beside, put_in_packet, had_in_packet, few_apart, within_formed, part_within}
use Rattle.packet_version.proofs.Forming.{formed_tags}
use Rattle.packet_version.proofs.version.Version.take.Goals as goal

pub take_few-requires-clause-not_tag : goal.take_few-requires-clause-not_tag
take_few-requires-clause-not_tag c =
    let within = c.self.inside.within in
    let own = c.self.inside.own.items in
    let lent = c.self.inside.lent in
    let touch = c.self.inside.touch in
    let fixed = c.self.inside.fixed in
    let f = c.args.field in
    let w = writes_is within own lent f touch fixed _ c.args.self.now c.self.view_is c.requires in
    (few_apart touch within c.in-Some.held own lent f c.in-Some.is w c.self.invariant).0

pub take_few-requires-clause-not_payload : goal.take_few-requires-clause-not_payload
take_few-requires-clause-not_payload c =
    let within = c.self.inside.within in
    let own = c.self.inside.own.items in
    let lent = c.self.inside.lent in
    let touch = c.self.inside.touch in
    let fixed = c.self.inside.fixed in
    let f = c.args.field in
    let w = writes_is within own lent f touch fixed _ c.args.self.now c.self.view_is c.requires in
    (few_apart touch within c.in-Some.held own lent f c.in-Some.is w c.self.invariant).1

pub take_few-requires-clause-formed : goal.take_few-requires-clause-formed
take_few-requires-clause-formed c =
    let within = c.self.inside.within in
    let own = c.self.inside.own.items in
    let lent = c.self.inside.lent in
    let touch = c.self.inside.touch in
    let fixed = c.self.inside.fixed in
    let f = c.args.field in
    let w = writes_is within own lent f touch fixed _ c.args.self.now c.self.view_is c.requires in
    within_formed touch within c.in-Some.held own lent f c.in-Some.is w c.self.invariant

pub invariant_of-self : goal.invariant_of-self
invariant_of-self c =
    let within = c.self.inside.within in
    let own = c.self.inside.own.items in
    let lent = c.self.inside.lent in
    let touch = c.self.inside.touch in
    let fixed = c.self.inside.fixed in
    let f = c.args.field in
    let w = writes_is within own lent f touch fixed _ c.args.self.now c.self.view_is c.requires in
    had_in_packet touch within own lent c.in-Some.held c.take_few.new.self f None c.in-Some.is (changed_to f None c.in-Some.held c.take_few.new.self c.take_few.ensures.left) w tt c.self.invariant

pub returns-in-Some-clause-part : goal.returns-in-Some-clause-part
returns-in-Some-clause-part c =
    let within = c.self.inside.within in
    let own = c.self.inside.own.items in
    let lent = c.self.inside.lent in
    let touch = c.self.inside.touch in
    let fixed = c.self.inside.fixed in
    let f = c.args.field in
    let w = writes_is within own lent f touch fixed _ c.args.self.now c.self.view_is c.requires in
    c.take_few.ensures.part ∙ sym (part_within within own lent c.in-Some.held f touch fixed c.args.self.now c.in-Some.is w c.self.view_is)

pub returns-in-Some-clause-left : goal.returns-in-Some-clause-left
returns-in-Some-clause-left c =
    let within = c.self.inside.within in
    let own = c.self.inside.own.items in
    let lent = c.self.inside.lent in
    let touch = c.self.inside.touch in
    let fixed = c.self.inside.fixed in
    let f = c.args.field in
    let w = writes_is within own lent f touch fixed _ c.args.self.now c.self.view_is c.requires in
    put_in_packet within own lent c.in-Some.held c.take_few.new.self f None touch fixed c.args.self.now c.in-Some.is (changed_to f None c.in-Some.held c.take_few.new.self c.take_few.ensures.left) w c.self.view_is

pub returns-in-Some-clause-tags : goal.returns-in-Some-clause-tags
returns-in-Some-clause-tags c = λ is.
    let within = c.self.inside.within in
    let own = c.self.inside.own.items in
    let lent = c.self.inside.lent in
    let touch = c.self.inside.touch in
    let fixed = c.self.inside.fixed in
    let f = c.args.field in
    let w = writes_is within own lent f touch fixed _ c.args.self.now c.self.view_is c.requires in
    formed_tags f c.take_few.result is (subst (IsPartOf f) (sym c.take_few.ensures.part) (within_formed touch within c.in-Some.held own lent f c.in-Some.is w c.self.invariant))

pub invariant_of-self-in-None : goal.invariant_of-self-in-None
invariant_of-self-in-None c =
    let within = c.self.inside.within in
    let own = c.self.inside.own.items in
    let lent = c.self.inside.lent in
    let touch = c.self.inside.touch in
    let fixed = c.self.inside.fixed in
    let f = c.args.field in
    let w = writes_is within own lent f touch fixed _ c.args.self.now c.self.view_is c.requires in
    had_beside touch within own lent c.number.result f c.replace.new.dest c.in-None.is c.number.ensures.number c.number.ensures.below w (subst (IsPartOf f) (sym c.replace.ensures.after) tt) c.self.invariant

pub returns-in-None-clause-left : goal.returns-in-None-clause-left
returns-in-None-clause-left c =
    let within = c.self.inside.within in
    let own = c.self.inside.own.items in
    let lent = c.self.inside.lent in
    let touch = c.self.inside.touch in
    let fixed = c.self.inside.fixed in
    let f = c.args.field in
    let w = writes_is within own lent f touch fixed _ c.args.self.now c.self.view_is c.requires in
    put_beside within own lent c.number.result f c.replace.new.dest touch fixed c.args.self.now c.in-None.is c.number.ensures.number c.number.ensures.below w c.self.invariant c.self.view_is
    ∙ ap (λ (o : Option PlainPart). with_part f o c.args.self.now) c.replace.ensures.after
