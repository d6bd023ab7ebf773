use Rattle.std.proofs.Common.{◌∙◌, ap, sym, subst}
use Rattle.std.specs.Prelude.{Option, Some}
use Rattle.packet_version.specs.Parts.{PlainPart, IsPartOf}
use Rattle.packet_version.specs.Versions.{with_part}
use Rattle.packet_version.proofs.PartsOfBranch.{writes_is, changed_to, put_beside, had_beside, put_in_packet, had_in_packet}
use Rattle.packet_version.proofs.version.Version.give.Goals as goal

pub invariant_of-self : goal.invariant_of-self
invariant_of-self c =
    let within = c.self.inside.within in
    let own = c.self.inside.own.items in
    let lent = c.self.inside.lent in
    let touch = c.self.inside.touch in
    let fixed = c.self.inside.fixed in
    let f = c.args.field in
    let w = writes_is within own lent f touch fixed _ c.args.self.now c.self.view_is c.requires.written in
    had_in_packet touch within own lent c.in-Some.held c.put.new.self f (Some c.args.part) c.in-Some.is (changed_to f (Some c.args.part) c.in-Some.held c.put.new.self c.put.ensures) w c.requires.formed c.self.invariant

pub returns-in-Some : goal.returns-in-Some
returns-in-Some c =
    let within = c.self.inside.within in
    let own = c.self.inside.own.items in
    let lent = c.self.inside.lent in
    let touch = c.self.inside.touch in
    let fixed = c.self.inside.fixed in
    let f = c.args.field in
    let w = writes_is within own lent f touch fixed _ c.args.self.now c.self.view_is c.requires.written in
    put_in_packet within own lent c.in-Some.held c.put.new.self f (Some c.args.part) touch fixed c.args.self.now c.in-Some.is (changed_to f (Some c.args.part) c.in-Some.held c.put.new.self c.put.ensures) w c.self.view_is

pub invariant_of-self-in-None : goal.invariant_of-self-in-None
invariant_of-self-in-None c =
    let within = c.self.inside.within in
    let own = c.self.inside.own.items in
    let lent = c.self.inside.lent in
    let touch = c.self.inside.touch in
    let fixed = c.self.inside.fixed in
    let f = c.args.field in
    let w = writes_is within own lent f touch fixed _ c.args.self.now c.self.view_is c.requires.written in
    had_beside touch within own lent c.number.result f c.put_part.new.place c.in-None.is c.number.ensures.number c.number.ensures.below w (subst (IsPartOf f) (sym c.put_part.ensures) c.requires.formed) c.self.invariant

pub returns-in-None : goal.returns-in-None
returns-in-None c =
    let within = c.self.inside.within in
    let own = c.self.inside.own.items in
    let lent = c.self.inside.lent in
    let touch = c.self.inside.touch in
    let fixed = c.self.inside.fixed in
    let f = c.args.field in
    let w = writes_is within own lent f touch fixed _ c.args.self.now c.self.view_is c.requires.written in
    put_beside within own lent c.number.result f c.put_part.new.place touch fixed c.args.self.now c.in-None.is c.number.ensures.number c.number.ensures.below w c.self.invariant c.self.view_is
    ∙ ap (λ (o : Option PlainPart). with_part f o c.args.self.now) c.put_part.ensures
