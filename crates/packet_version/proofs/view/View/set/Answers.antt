use Rattle.std.proofs.Common.{sym, subst}
use Rattle.std.specs.Prelude.{option_map}
use Rattle.packet_version.specs.Parts.{as_map, rewritten, IsPartOf}
use Rattle.packet_version.proofs.Forming.{same_formed}
use Rattle.packet_version.proofs.PartsOfBranch.{changed_as, had_beside, had_in_packet, within_formed}
use Rattle.packet_version.proofs.Viewing.{view_writes, seen_beside, seen_in_packet, seen_formed, wrote_beside, wrote_in_packet, fits_seen, values_fit}
use Rattle.packet_version.proofs.view.View.set.Goals as goal

pub set-requires-clause-fits : goal.set-requires-clause-fits
set-requires-clause-fits c =
    let within = c.self.inside.within in
    let own = c.self.inside.own.items in
    let lent = c.self.inside.lent in
    let touch = c.self.inside.touch in
    let fixed = c.self.inside.fixed in
    let profile = c.self.inside.profile in
    let position = c.self.inside.position in
    let old = c.args.self.now in
    let f = c.args.field in
    let w = view_writes within own lent f touch fixed profile position old c.requires.written c.self.invariant c.self.view_is in
    let read = seen_in_packet within c.in-Some.held own lent f touch fixed profile position old c.in-Some.is w c.self.view_is in
    fits_seen _ _ c.args.value.now read c.requires.fits

pub invariant_of-self : goal.invariant_of-self
invariant_of-self c =
    let within = c.self.inside.within in
    let own = c.self.inside.own.items in
    let lent = c.self.inside.lent in
    let touch = c.self.inside.touch in
    let fixed = c.self.inside.fixed in
    let profile = c.self.inside.profile in
    let position = c.self.inside.position in
    let old = c.args.self.now in
    let f = c.args.field in
    let w = view_writes within own lent f touch fixed profile position old c.requires.written c.self.invariant c.self.view_is in
    let read = seen_in_packet within c.in-Some.held own lent f touch fixed profile position old c.in-Some.is w c.self.view_is in
    let part = option_map (rewritten c.args.value.now position) (as_map c.in-Some.held.parts f) in
    let formed = same_formed f (as_map c.in-Some.held.parts f) c.args.value.now position c.requires.not_tag (values_fit _ _ c.args.value.now read c.requires.fits) (within_formed touch within c.in-Some.held own lent f c.in-Some.is w c.self.invariant.had) in
    record {
      had = had_in_packet touch within own lent c.in-Some.held c.set.new.self f part c.in-Some.is (changed_as f part c.in-Some.held c.set.new.self c.set.ensures.parts c.set.ensures.rest) w formed c.self.invariant.had;
      holds = c.self.invariant.holds;
    }

pub returns-in-Some : goal.returns-in-Some
returns-in-Some c =
    let within = c.self.inside.within in
    let own = c.self.inside.own.items in
    let lent = c.self.inside.lent in
    let touch = c.self.inside.touch in
    let fixed = c.self.inside.fixed in
    let profile = c.self.inside.profile in
    let position = c.self.inside.position in
    let old = c.args.self.now in
    let f = c.args.field in
    let w = view_writes within own lent f touch fixed profile position old c.requires.written c.self.invariant c.self.view_is in
    let read = seen_in_packet within c.in-Some.held own lent f touch fixed profile position old c.in-Some.is w c.self.view_is in
    let part = option_map (rewritten c.args.value.now position) (as_map c.in-Some.held.parts f) in
    wrote_in_packet within own lent c.in-Some.held c.set.new.self f c.args.value.now touch fixed profile position old c.in-Some.is (changed_as f part c.in-Some.held c.set.new.self c.set.ensures.parts c.set.ensures.rest) w c.self.view_is

pub set_part-requires : goal.set_part-requires
set_part-requires c =
    let within = c.self.inside.within in
    let own = c.self.inside.own.items in
    let lent = c.self.inside.lent in
    let touch = c.self.inside.touch in
    let fixed = c.self.inside.fixed in
    let profile = c.self.inside.profile in
    let position = c.self.inside.position in
    let old = c.args.self.now in
    let f = c.args.field in
    let w = view_writes within own lent f touch fixed profile position old c.requires.written c.self.invariant c.self.view_is in
    let read = seen_beside within own lent c.number.result f c.index_mut.result.now touch fixed profile position old c.in-None.is c.index_mut.ensures.value c.number.ensures.number c.number.ensures.below w c.self.invariant c.self.view_is in
    fits_seen _ _ c.args.value.now read c.requires.fits

pub invariant_of-self-in-None : goal.invariant_of-self-in-None
invariant_of-self-in-None c =
    let within = c.self.inside.within in
    let own = c.self.inside.own.items in
    let lent = c.self.inside.lent in
    let touch = c.self.inside.touch in
    let fixed = c.self.inside.fixed in
    let profile = c.self.inside.profile in
    let position = c.self.inside.position in
    let old = c.args.self.now in
    let f = c.args.field in
    let w = view_writes within own lent f touch fixed profile position old c.requires.written c.self.invariant c.self.view_is in
    let read = seen_beside within own lent c.number.result f c.index_mut.result.now touch fixed profile position old c.in-None.is c.index_mut.ensures.value c.number.ensures.number c.number.ensures.below w c.self.invariant c.self.view_is in
    let was = subst (IsPartOf f) read (seen_formed within own lent touch fixed profile position old c.self.invariant c.self.view_is f) in
    let formed = same_formed f c.index_mut.result.now c.args.value.now position c.requires.not_tag (values_fit _ _ c.args.value.now read c.requires.fits) was in
    record {
      had = had_beside touch within own lent c.number.result f c.set_part.new.part c.in-None.is c.number.ensures.number c.number.ensures.below w (subst (IsPartOf f) (sym c.set_part.ensures) formed) c.self.invariant.had;
      holds = c.self.invariant.holds;
    }

pub returns-in-None : goal.returns-in-None
returns-in-None c =
    let within = c.self.inside.within in
    let own = c.self.inside.own.items in
    let lent = c.self.inside.lent in
    let touch = c.self.inside.touch in
    let fixed = c.self.inside.fixed in
    let profile = c.self.inside.profile in
    let position = c.self.inside.position in
    let old = c.args.self.now in
    let f = c.args.field in
    let w = view_writes within own lent f touch fixed profile position old c.requires.written c.self.invariant c.self.view_is in
    wrote_beside within own lent c.number.result f c.index_mut.result.now c.set_part.new.part c.args.value.now touch fixed profile position old c.in-None.is c.index_mut.ensures.value c.set_part.ensures c.number.ensures.number c.number.ensures.below w c.self.invariant c.self.view_is
