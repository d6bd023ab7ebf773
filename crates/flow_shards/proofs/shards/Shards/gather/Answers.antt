use Rattle.std.proofs.Common.{rules, ◌≤◌, ◌∙◌, length, sym, ap, subst}
use Rattle.std.specs.Prelude.{All}
use Rattle.std.specs.List.Sorted.{IsPermutation, IsNonDecreasingBy}
use Rattle.std.specs.Map.{values_of}
use Rattle.std.proofs.lemmas.List.{length-map}
use Rattle.std.proofs.lemmas.List.Sorted.{IsNonDecreasingBy-from_sort_by_key}
use Rattle.flow_line.specs.Versions.{HasFittingKey}
use Rattle.flow_line.specs.declared.line.FlowLine.{FlowLine}
use Rattle.flow_shards.specs.Sharding.{ShardsView, flat, in_order}
use Rattle.flow_shards.proofs.Gathering.{gathered}
use Rattle.flow_shards.proofs.Keyed.{all_fit}
use Rattle.flow_shards.proofs.shards.Shards.gather.Goals as goal

pub returns-clause-lines : goal.returns-clause-lines
returns-clause-lines c =
    let tables = c.self.inside.tables.items in
    let sorted = c.sort_by_key.new.self.items in
    let moved : IsPermutation (values_of (flat tables)) sorted =
    subst (λ l. IsPermutation l sorted) c.in_ok-lines.ensures c.sort_by_key.ensures.permutation in
    let up : IsNonDecreasingBy (λ (line : FlowLine). line.first) sorted = IsNonDecreasingBy-from_sort_by_key (λ (line : FlowLine). line.first) sorted c.in_ok-sort_by_key.ensures.sorted (λ a r f called. search rules) in
    gathered (flat tables) sorted c.self.invariant.ordered.rising moved up
    ∙ ap (λ (v : ShardsView). values_of v.lines) c.self.view_is

pub returns-clause-fits : goal.returns-clause-fits
returns-clause-fits c =
    let all : All HasFittingKey (values_of c.args.self.lines) = subst (λ (v : ShardsView). All HasFittingKey (values_of v.lines)) c.self.view_is (all_fit (in_order (flat c.self.inside.tables.items)) c.self.invariant.keyed) in
    subst (All HasFittingKey) (sym (returns-clause-lines c)) all

pub returns-clause-few : goal.returns-clause-few
returns-clause-few c =
    let lines = in_order (flat c.self.inside.tables.items) in
    let few : length (values_of lines) ≤ c.self.inside.last = subst (λ n. n ≤ c.self.inside.last) (sym (length-map lines (λ line. line.1))) c.self.invariant.ordered.few in
    subst (λ l. length l ≤ c.args.self.last) (sym (returns-clause-lines c)) (subst (λ (v : ShardsView). length (values_of v.lines) ≤ v.last) c.self.view_is few)
