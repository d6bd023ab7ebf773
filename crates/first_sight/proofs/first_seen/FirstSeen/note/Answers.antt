use Rattle.std.proofs.Common.{◌≡◌, ◌∙◌, ap}
use Rattle.std.specs.Map.{keys_of}
use Rattle.first_sight.specs.FirstSight.{noted}
use Rattle.first_sight.proofs.Noting.{inserted_is_noted, keys_noted}
use Rattle.first_sight.proofs.first_seen.FirstSeen.note.Goals as goal

pub returns-clause-noted : goal.returns-clause-noted
returns-clause-noted g c =
    inserted_is_noted g.K.PartialEq.eq g.met.K.Eq.laws c.args.self.now c.insert_full.new.self.entries c.args.key c.args.value (cc (c.in_ok-place.ensures.entries, c.self.view_is)) c.in_ok-place.ensures.unique

pub returns-clause-keys : goal.returns-clause-keys
returns-clause-keys g c =
    let noted_here : c.insert_full.new.self.entries ≡ noted g.K.PartialEq.eq c.args.self.now c.args.key c.args.value =
    inserted_is_noted g.K.PartialEq.eq g.met.K.Eq.laws c.args.self.now c.insert_full.new.self.entries c.args.key c.args.value (cc (c.in_ok-place.ensures.entries, c.self.view_is)) c.in_ok-place.ensures.unique in
    ap keys_of noted_here ∙ keys_noted g.K.PartialEq.eq c.args.self.now c.args.key c.args.value
