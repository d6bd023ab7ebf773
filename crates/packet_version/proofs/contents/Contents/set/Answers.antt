use Rattle.std.proofs.Common.{◌≡◌, ◌∙◌, List, length, true, false, ap, sym, subst}
use Rattle.std.specs.Prelude.{Option, IsSomeAnd, option_map}
use Rattle.packet_version.specs.Parts.{PlainPart, PlainHeld, rewritten}
use Rattle.packet_version.specs.Places.{place_of, part_in, is_outside}
use Rattle.packet_version.specs.declared.place.Place.{Place}
use Rattle.packet_version.proofs.Keeping.{held_put, part_read, place_read, opened_place}
use Rattle.packet_version.proofs.Within.{outside_ten, place_within, held_within_at, within_fits, written_within, place_rewritten}
use Rattle.packet_version.proofs.contents.Contents.set.Goals as goal

pub put_value-requires-clause-fits : goal.put_value-requires-clause-fits
put_value-requires-clause-fits c =
    let taggers = c.self.inside.taggers in
    let frame = c.self.inside.rest in
    let writers = c.self.inside.writers in
    let places = c.self.inside.places in
    let other : is_outside (place_of places c.args.field) ≡ false = sym (c.stands_beside.ensures ∙ ap (λ (ps : List Place). is_outside (place_of ps c.args.field)) c.all.ensures ∙ ap is_outside (opened_place places c.args.field)) ∙ c.if-stands_beside.false in
    let inside = place_within taggers frame writers places c.args.field c.args.bytes.now c.args.self.now other c.requires.fits c.self.view_is in
    within_fits taggers frame writers c.args.field c.args.bytes.now c.requires.not_tag
    (subst (λ (o : Option PlainPart). IsSomeAnd o (λ p. length c.args.bytes.now ≡ length p.bytes)) (held_within_at taggers frame writers places c.args.field c.args.self.now inside c.self.view_is) c.requires.fits)

pub returns-then-stands_beside-clause-parts : goal.returns-then-stands_beside-clause-parts
returns-then-stands_beside-clause-parts c =
    let taggers = c.self.inside.taggers in
    let frame = c.self.inside.rest in
    let writers = c.self.inside.writers in
    let places = c.self.inside.places in
    let f = c.args.field in
    let beside : is_outside (place_of places f) ≡ true = sym (c.stands_beside.ensures ∙ ap (λ (ps : List Place). is_outside (place_of ps f)) c.all.ensures ∙ ap is_outside (opened_place places f)) ∙ c.if-stands_beside.true in
    let ten = outside_ten places f beside c.self.invariant.ten in
    let read = place_read places c.number-number.result f c.at_mut.result.now c.at_mut.ensures.value c.number-number.ensures.number c.number-number.ensures.below ten in
    let here = part_read taggers frame writers places c.number-number.result f c.at_mut.result.now c.args.self.now c.at_mut.ensures.value c.number-number.ensures.number c.number-number.ensures.below ten c.self.view_is in
    ap (λ (h : PlainHeld). h.parts)
    (held_put taggers frame writers places c.number-number.result f c.set.new.self _ c.args.self.now c.number-number.ensures.number c.number-number.ensures.below ten
    (ap (λ (p : Place). part_in taggers frame writers f p) c.set.ensures
    ∙ (place_rewritten taggers frame writers f c.at_mut.result.now c.args.bytes.now c.args.writer (sym (ap is_outside read) ∙ beside)
    ∙ sym (ap (λ (o : Option PlainPart). option_map (rewritten c.args.bytes.now c.args.writer) o) here)))
    c.self.view_is)

pub returns-else-stands_beside-clause-parts : goal.returns-else-stands_beside-clause-parts
returns-else-stands_beside-clause-parts c =
    let places = c.self.inside.places in
    let other : is_outside (place_of places c.args.field) ≡ false = sym (c.stands_beside.ensures ∙ ap (λ (ps : List Place). is_outside (place_of ps c.args.field)) c.all.ensures ∙ ap is_outside (opened_place places c.args.field)) ∙ c.if-stands_beside.false in
    written_within c.self.inside.taggers c.self.inside.rest c.put_value.new.self c.self.inside.writers places c.number-number.result c.args.writer c.args.field c.args.bytes.now c.args.self.now
    c.number-number.ensures.number c.number-number.ensures.below c.self.told other c.requires.fits c.put_value.ensures.written c.put_value.ensures.others c.self.view_is
