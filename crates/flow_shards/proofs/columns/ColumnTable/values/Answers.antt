use Rattle.std.proofs.Common.{◌∙◌, sym}
use Rattle.std.specs.Map.{keys_of}
use Rattle.flow_shards.proofs.TwoColumns.{values_are}
use Rattle.flow_shards.proofs.columns.ColumnTable.values.Goals as goal

pub returns : goal.returns
returns g c =
    c.as_slice.ensures.value ∙ sym (values_are (keys_of c.self.inside.keys) c.self.inside.values.items c.args.self.now c.self.invariant.as_many c.self.view_is)
