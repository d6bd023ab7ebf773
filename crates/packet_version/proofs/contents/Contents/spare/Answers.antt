use Rattle.std.proofs.Common.{◌∙◌, ap, sym, subst}
use Rattle.std.specs.Prelude.{ℕ, ◌+◌, ◌≡◌, length, Option, IfSome}
use Rattle.packet_version.specs.Parts.{PlainPart}
use Rattle.packet_version.specs.Places.{part_in, parts_within}
use Rattle.packet_version.specs.declared.place.Place.{Place}
use Rattle.packet_version.proofs.Keeping.{part_read, inside_room, closed_part, is_closed, is_listed, listed_ten}
use Rattle.packet_version.proofs.contents.Contents.spare.Goals as goal

pub returns-in-Inside : goal.returns-in-Inside
returns-in-Inside c =
    let taggers = c.self.inside.taggers in
    let frame = c.self.inside.rest in
    let writers = c.self.inside.writers in
    let read = part_read taggers frame writers c.self.inside.places c.number.result c.args.field c.at.result.now c.args.self.now c.at.ensures c.number.ensures.number c.number.ensures.below (listed_ten c.self.inside.places (is_listed c.self.inside.places c.is_empty.result c.is_empty.ensures c.if-is_empty.false) c.self.invariant.ten) c.self.view_is ∙ ap (λ (p : Place). part_in taggers frame writers c.args.field p) c.in-Inside.is in
    subst (λ (o : Option PlainPart). IfSome o (λ part. part.room ≡ length part.bytes + c.spare_room-in-Inside.result)) (sym read)
    (subst (λ (n : ℕ). IfSome (parts_within taggers frame writers c.args.field) (λ part. part.room ≡ length part.bytes + n)) (sym c.spare_room-in-Inside.ensures) (inside_room taggers frame writers c.args.field))

pub returns-then-is_empty : goal.returns-then-is_empty
returns-then-is_empty c =
    let taggers = c.self.inside.taggers in
    let frame = c.self.inside.rest in
    let writers = c.self.inside.writers in
    let places = c.self.inside.places in
    let read = closed_part taggers frame writers places c.args.field c.args.self.now (is_closed places c.is_empty.result c.is_empty.ensures c.if-is_empty.true) c.self.view_is in
    subst (λ (o : Option PlainPart). IfSome o (λ part. part.room ≡ length part.bytes + c.spare_room.result)) (sym read)
    (subst (λ (n : ℕ). IfSome (parts_within taggers frame writers c.args.field) (λ part. part.room ≡ length part.bytes + n)) (sym c.spare_room.ensures) (inside_room taggers frame writers c.args.field))
