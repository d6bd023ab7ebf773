use Rattle.std.proofs.Common.{◌<◌, ◌∙◌, filter, length, get_or, sym, ap, subst}
use Rattle.std.specs.Prelude.{All}
use Rattle.std.specs.Map.{values_of}
use Rattle.std.proofs.lemmas.List.Elements.{All-filter}
use Rattle.flow_line.specs.Versions.{HasFittingKey}
use Rattle.flow_shards.specs.Sharding.{is_in_shard, in_order, flat, ShardsView}
use Rattle.flow_shards.proofs.Keyed.{all_fit, own_lines}
use Rattle.flow_shards.proofs.Parting.{part_of}
use Rattle.flow_shards.proofs.shards.Shards.of.Goals as goal

pub returns-clause-shard : goal.returns-clause-shard
returns-clause-shard c =
    let tables = c.self.inside.tables.items in
    let inside : c.args.worker < length tables = subst (λ (v : ShardsView). c.args.worker < v.workers) (sym c.self.view_is) c.requires in
    c.values.ensures
    ∙ ap values_of
    (c.index.ensures ∙ ap (λ t. get_or t c.args.worker c.index.result.now) c.self.invariant.parted ∙ part_of (length tables) c.args.worker (in_order (flat tables)) c.index.result.now inside)
    ∙ own_lines (length tables) c.args.worker (in_order (flat tables)) c.self.invariant.keyed
    ∙ ap (λ (v : ShardsView). filter (is_in_shard v.workers c.args.worker) (values_of v.lines)) c.self.view_is

pub returns-clause-fits : goal.returns-clause-fits
returns-clause-fits c =
    let all : All HasFittingKey (values_of c.args.self.now.lines) = subst (λ (v : ShardsView). All HasFittingKey (values_of v.lines)) c.self.view_is (all_fit (in_order (flat c.self.inside.tables.items)) c.self.invariant.keyed) in
    subst (All HasFittingKey) (sym (returns-clause-shard c)) (All-filter (is_in_shard c.args.self.now.workers c.args.worker) HasFittingKey (values_of c.args.self.now.lines) all)
