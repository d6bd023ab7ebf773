use Rattle.std.proofs.Common.{◌∙◌, ap, sym}
use Rattle.std.specs.Prelude.{Option, Some, None, option_map}
use Rattle.packet_version.specs.Parts.{PlainPart}
use Rattle.packet_version.proofs.Viewing.{view_as, is_view_as, seen_lent, seen_beside, seen_named}
use Rattle.packet_version.proofs.view.View.bytes.Goals as goal

pub returns-in-Some : goal.returns-in-Some
returns-in-Some c =
    let within = c.self.inside.within in
    let own = c.self.inside.own.items in
    let lent = c.self.inside.lent in
    let touch = c.self.inside.touch in
    let fixed = c.self.inside.fixed in
    let profile = c.self.inside.profile in
    let position = c.self.inside.position in
    let old = c.args.self.now in
    let f = c.args.field in
    let seen = seen_named c.in-Some.held own lent f touch fixed profile position old c.requires.named (is_view_as profile touch within (Some c.in-Some.held) own lent c.in-Some.is c.self.invariant) (view_as within (Some c.in-Some.held) own lent touch fixed profile position old c.in-Some.is c.self.view_is) in
    c.bytes.ensures ∙ ap (λ (o : Option PlainPart). option_map (λ p. p.bytes) o) (sym seen)

pub returns-then-has : goal.returns-then-has
returns-then-has c =
    let within = c.self.inside.within in
    let own = c.self.inside.own.items in
    let lent = c.self.inside.lent in
    let touch = c.self.inside.touch in
    let fixed = c.self.inside.fixed in
    let profile = c.self.inside.profile in
    let position = c.self.inside.position in
    let old = c.args.self.now in
    let f = c.args.field in
    let seen = seen_beside within own lent c.number.result f c.index.result.now touch fixed profile position old c.in_default.is c.index.ensures c.number.ensures.number c.number.ensures.below (sym c.has.ensures ∙ c.if-has.true) c.self.invariant c.self.view_is in
    c.own_bytes.ensures ∙ ap (λ (o : Option PlainPart). option_map (λ p. p.bytes) o) (sym seen)

pub returns : goal.returns
returns c =
    let within = c.self.inside.within in
    let own = c.self.inside.own.items in
    let lent = c.self.inside.lent in
    let touch = c.self.inside.touch in
    let fixed = c.self.inside.fixed in
    let profile = c.self.inside.profile in
    let position = c.self.inside.position in
    let old = c.args.self.now in
    let f = c.args.field in
    let seen = seen_lent own lent f touch fixed profile position old c.requires.named (sym c.has.ensures ∙ c.if-has.false) (is_view_as profile touch within None own lent c.in_default.is c.self.invariant) (view_as within None own lent touch fixed profile position old c.in_default.is c.self.view_is) in
    c.lent_bytes.ensures ∙ ap (λ (o : Option PlainPart). option_map (λ p. p.bytes) o) (sym seen)
