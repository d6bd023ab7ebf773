use Rattle.std.proofs.Common.{◌∙◌, List, length, ap, refl}
use Rattle.std.specs.Prelude.{Some}
use Rattle.packet_version.specs.declared.place.Place.{Place}
use Rattle.packet_version.specs.declared.place.Place.TheVariants.{Outside}
use Rattle.packet_version.proofs.Keeping.{held_put, opened_held}
use Rattle.packet_version.proofs.contents.Contents.put.Goals as goal

pub returns : goal.returns
returns c =
    let taggers = c.self.inside.taggers in
    let frame = c.self.inside.rest in
    let writers = c.self.inside.writers in
    let places = c.open.new.self in
    held_put taggers frame writers places c.number.result c.args.field (Outside c.args.part) (Some c.args.part) c.args.self.now c.number.ensures.number c.number.ensures.below
    (ap (λ (ps : List Place). length ps) c.open.ensures ∙ c.self.invariant.ten) refl
    (opened_held taggers frame writers c.self.inside.places places c.args.self.now c.open.ensures c.self.view_is)
