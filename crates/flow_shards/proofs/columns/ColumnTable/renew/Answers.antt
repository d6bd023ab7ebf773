use Rattle.std.proofs.Common.{◌≡◌, ◌∙◌, Some, position, sym, ap, arith}
use Rattle.std.specs.Map.{keys_of}
use Rattle.first_sight.specs.FirstSight.{noted}
use Rattle.first_sight.proofs.Places.{place_found}
use Rattle.flow_shards.proofs.TwoColumns.{keys_are, renewed}
use Rattle.flow_shards.proofs.columns.ColumnTable.renew.Goals as goal

pub index_mut-requires : goal.index_mut-requires
index_mut-requires g c =
    let keys = keys_are (keys_of c.self.inside.keys) c.self.inside.values.items c.args.self.now c.self.invariant.as_many c.self.view_is in
    let at = place_found (g.K.PartialEq.eq c.args.key.now) (keys_of c.self.inside.keys) c.args.place (ap (position (g.K.PartialEq.eq c.args.key.now)) (sym keys) ∙ c.requires) in
    omega (arith, at.1, c.self.invariant.as_many)

pub returns : goal.returns
returns g c =
    let keys = keys_are (keys_of c.self.inside.keys) c.self.inside.values.items c.args.self.now c.self.invariant.as_many c.self.view_is in
    let found : position (g.K.PartialEq.eq c.args.key.now) (keys_of c.self.inside.keys) ≡ Some c.args.place = ap (position (g.K.PartialEq.eq c.args.key.now)) (sym keys) ∙ c.requires in
    renewed g.K.PartialEq.eq g.met.K.Eq.laws (keys_of c.self.inside.keys) c.self.inside.values.items c.args.key.now c.args.place c.args.value c.self.invariant.as_many found c.self.invariant.distinct
    ∙ ap (λ seen. noted g.K.PartialEq.eq seen c.args.key.now c.args.value) c.self.view_is
