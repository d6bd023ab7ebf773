use Rattle.std.proofs.Common.{◌∙◌, List, ap}
use Rattle.packet_version.specs.declared.place.Place.{Place}
use Rattle.packet_version.proofs.Keeping.{held_of, no_writers, held_forgotten}
use Rattle.packet_version.proofs.contents.Contents.forget_writers.Goals as goal

pub returns : goal.returns
returns c =
    let taggers = c.self.inside.taggers in
    let frame = c.self.inside.rest in
    ap (λ (ps : List Place). held_of taggers frame no_writers ps) c.forget_writers.ensures
    ∙ held_forgotten taggers frame c.self.inside.writers c.self.inside.places c.args.self.now c.self.view_is
