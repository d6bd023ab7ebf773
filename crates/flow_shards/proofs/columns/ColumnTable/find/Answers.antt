use Rattle.std.proofs.Common.{◌∙◌, Some, position, sym, ap}
use Rattle.std.specs.Map.{keys_of}
use Rattle.first_sight.specs.FirstSight.{belonging}
use Rattle.flow_shards.proofs.TwoColumns.{keys_are, none_found, value_found}
use Rattle.flow_shards.proofs.columns.ColumnTable.find.Goals as goal

pub returns-in_err-place-clause-place : goal.returns-in_err-place-clause-place
returns-in_err-place-clause-place g c =
    let keys = keys_are (keys_of c.self.inside.keys) c.self.inside.values.items c.args.self.now c.self.invariant.as_many c.self.view_is in
    cc (c.from_residual.ensures, c.in_err-place.ensures.place, keys)

pub returns-in_err-place-clause-value : goal.returns-in_err-place-clause-value
returns-in_err-place-clause-value g c =
    let none = none_found g.K.PartialEq.eq c.self.inside.keys c.self.inside.values.items c.args.key.now (sym c.in_err-place.ensures.value) in
    cc (c.from_residual.ensures, none, c.self.view_is)

pub returns-clause-place : goal.returns-clause-place
returns-clause-place g c =
    c.in_ok-place.ensures.place
    ∙ ap (position (g.K.PartialEq.eq c.args.key.now)) (sym (keys_are (keys_of c.self.inside.keys) c.self.inside.values.items c.args.self.now c.self.invariant.as_many c.self.view_is))

pub returns-clause-value : goal.returns-clause-value
returns-clause-value g c =
    ap Some c.index.ensures
    ∙ sym (value_found g.K.PartialEq.eq (keys_of c.self.inside.keys) c.self.inside.values.items c.args.key.now c.in_ok-place.place c.index.result.now c.self.invariant.as_many (sym c.in_ok-place.ensures.place))
    ∙ ap (λ seen. belonging g.K.PartialEq.eq seen c.args.key.now) c.self.view_is
