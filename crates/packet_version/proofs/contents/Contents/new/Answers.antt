use Rattle.std.proofs.Common.{List, ap, refl, length}
use Rattle.packet_version.specs.declared.place.Place.{Place}
use Rattle.packet_version.proofs.Keeping.{no_writers, new_held}
use Rattle.packet_version.proofs.contents.Contents.new.Goals as goal

pub returns : goal.returns
returns c = new_held c.args.taggers c.args.rest no_writers c.new.result (ap (λ (ps : List Place). length ps) c.new.ensures) refl
