use Rattle.std.proofs.Common.{ap, sym, ◌∙◌}
use Rattle.acc_table.specs.Arrivals.{open_count}
use Rattle.acc_table.proofs.Counting.{taken-opened}
use Rattle.acc_table.proofs.Finding.{len-opened}
use Rattle.acc_table.proofs.table.AccTable.open_count.Goals as goal

pub returns : goal.returns
returns g c =
    c.taken.ensures
    ∙ (c.self.invariant.linked.all
    ∙ (taken-opened c.self.inside.rows.items
    ∙ (sym (len-opened c.self.inside.rows.items c.self.invariant.kept.once)
    ∙ ap open_count c.self.view_is)))
