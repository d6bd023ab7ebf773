use Rattle.std.proofs.Common.{◌≡◌, ◌∙◌, List, [], ◌∷◌, ◌++◌, map, sym, ap, arith}
use Rattle.std.specs.List.{range_with_len}
use Rattle.std.proofs.lemmas.List.Elements.{All-nil}
use Rattle.std.proofs.lemmas.List.FromFn.{map-range_with_len_more}
use Rattle.flow_shards.specs.Flows.{Lines}
use Rattle.flow_shards.specs.Sharding.{IsKeyed, parts}
use Rattle.flow_shards.proofs.Parting.{are_parted, view_of, no_lines}
use Rattle.flow_shards.proofs.shards.Shards.new.Goals as goal

pub workers-preserved : goal.workers-preserved
workers-preserved c =
    c.in_ok-push.ensures.items ∙ (λ i. c.workers.invariant i ++ c.new.ensures i ∷ [])
    ∙ sym (map-range_with_len_more {X = Lines} (λ worker. []) 0 c.workers.counter c.workers.counter (omega arith))

pub invariant_of-result : goal.invariant_of-result
invariant_of-result c =
    let all : c.workers.counter ≡ c.args.workers = omega (arith, c.workers-test.false, c.workers.auto.counter-end) in
    let are : ◌≡◌ {A = List Lines} c.workers.tables.items (parts c.args.workers []) = c.workers.invariant ∙ ap (λ n. map (λ worker. []) (range_with_len 0 n)) all in
    are_parted c.args.workers 0 [] c.workers.tables.items c.requires.some c.requires.few are (no_lines 0) (All-nil IsKeyed)

pub returns : goal.returns
returns c =
    let all : c.workers.counter ≡ c.args.workers = omega (arith, c.workers-test.false, c.workers.auto.counter-end) in
    let are : ◌≡◌ {A = List Lines} c.workers.tables.items (parts c.args.workers []) = c.workers.invariant ∙ ap (λ n. map (λ worker. []) (range_with_len 0 n)) all in
    view_of c.args.workers 0 [] c.workers.tables.items c.requires.some c.requires.few are (no_lines 0)
