use Rattle.std.proofs.Common.{◌%◌, ap, sym, ◌∙◌, length}
use Rattle.acc_table.specs.Arrivals.{bucket_len, heads_for}
use Rattle.acc_table.specs.Links.{owners}
use Rattle.acc_table.proofs.Bucketing.{bucket_counts}
use Rattle.acc_table.proofs.table.AccTable.chain_len.Goals as goal

pub returns : goal.returns
returns g c =
    let rows = c.self.inside.rows.items in
    let buckets = heads_for (length rows) in
    c.chain_len.ensures buckets (owners rows) c.self.invariant.linked
    ∙ (sym (bucket_counts buckets (c.args.pid % buckets) rows c.self.invariant.kept.once)
    ∙ ap (λ t. bucket_len t c.args.pid) c.self.view_is)
