use Rattle.std.proofs.Common.{◌≡◌, Some, position}
use Rattle.std.specs.Map.{keys_of}
use Rattle.first_sight.proofs.Noting.{renewed}
use Rattle.first_sight.proofs.Places.{inside}
use Rattle.first_sight.proofs.first_seen.FirstSeen.renew.Goals as goal

pub pair_mut-belonging-requires : goal.pair_mut-belonging-requires
pair_mut-belonging-requires g c =
    let found : position (g.K.PartialEq.eq c.args.key.now) (keys_of c.self.inside.entries.entries) ≡ Some c.args.place = cc (c.requires.place, c.self.view_is) in
    inside (g.K.PartialEq.eq c.args.key.now) c.self.inside.entries.entries c.args.place found

pub returns : goal.returns
returns g c =
    let found : position (g.K.PartialEq.eq c.args.key.now) (keys_of c.self.inside.entries.entries) ≡ Some c.args.place = cc (c.requires.place, c.self.view_is) in
    let set = renewed g.K.PartialEq.eq g.met.K.Eq.laws c.self.inside.entries.entries c.args.key.now c.args.place c.args.value found c.pair_mut-belonging.ensures.unique in
    record { noted = cc (set, c.self.view_is) }
