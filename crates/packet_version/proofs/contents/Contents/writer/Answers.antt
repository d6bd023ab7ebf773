use Rattle.std.proofs.Common.{◌∙◌, ap, sym}
use Rattle.std.specs.Prelude.{Option}
use Rattle.packet_version.specs.Parts.{PlainPart, writer_in}
use Rattle.packet_version.specs.Places.{part_in}
use Rattle.packet_version.specs.declared.place.Place.{Place}
use Rattle.packet_version.proofs.Keeping.{part_read, within_read, closed_part, is_closed, is_listed, listed_ten}
use Rattle.packet_version.proofs.contents.Contents.writer.Goals as goal

pub returns-then-is_empty : goal.returns-then-is_empty
returns-then-is_empty c =
    let taggers = c.self.inside.taggers in
    let frame = c.self.inside.rest in
    let writers = c.self.inside.writers in
    let places = c.self.inside.places in
    within_read taggers frame writers c.number-number.result c.writer_inside.result c.args.field c.writer_inside.ensures c.number-number.ensures.number
    ∙ sym (ap (λ (o : Option PlainPart). writer_in o) (closed_part taggers frame writers places c.args.field c.args.self.now (is_closed places c.is_empty.result c.is_empty.ensures c.if-is_empty.true) c.self.view_is))

pub returns-in-Inside : goal.returns-in-Inside
returns-in-Inside c =
    let taggers = c.self.inside.taggers in
    let frame = c.self.inside.rest in
    let writers = c.self.inside.writers in
    let places = c.self.inside.places in
    let ten = listed_ten places (is_listed places c.is_empty.result c.is_empty.ensures c.if-is_empty.false) c.self.invariant.ten in
    let read = part_read taggers frame writers places c.number-number.result c.args.field c.at.result.now c.args.self.now c.at.ensures c.number-number.ensures.number c.number-number.ensures.below ten c.self.view_is ∙ ap (λ (p : Place). part_in taggers frame writers c.args.field p) c.in-Inside.is in
    within_read taggers frame writers c.number-number.result c.writer_inside-in-Inside.result c.args.field c.writer_inside-in-Inside.ensures c.number-number.ensures.number
    ∙ sym (ap (λ (o : Option PlainPart). writer_in o) read)
