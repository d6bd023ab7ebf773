use Rattle.std.proofs.Common.{◌∙◌, List, length, ap}
use Rattle.std.specs.Prelude.{None}
use Rattle.packet_version.specs.Places.{part_in}
use Rattle.packet_version.specs.declared.place.Place.{Place}
use Rattle.packet_version.proofs.Keeping.{held_put, opened_held}
use Rattle.packet_version.proofs.contents.Contents.take.Goals as goal

pub returns-clause-left : goal.returns-clause-left
returns-clause-left c =
    let taggers = c.self.inside.taggers in
    let frame = c.self.inside.rest in
    let writers = c.self.inside.writers in
    let places = c.open.new.self in
    held_put taggers frame writers places c.number-number.result c.args.field c.replace-place.new.dest None c.args.self.now c.number-number.ensures.number c.number-number.ensures.below
    (ap (λ (ps : List Place). length ps) c.open.ensures ∙ c.self.invariant.ten)
    (ap (λ (p : Place). part_in taggers frame writers c.args.field p) c.replace-place.ensures.after)
    (opened_held taggers frame writers c.self.inside.places places c.args.self.now c.open.ensures c.self.view_is)
