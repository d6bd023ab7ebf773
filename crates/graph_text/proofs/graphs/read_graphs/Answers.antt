use Rattle.graph_text.specs.Chains.{functions_at, order_at, profiles_in}
use Rattle.graph_text.proofs.Giving.{answer, if_more}
use Rattle.graph_text.proofs.graphs.read_graphs.Goals as goal

pub returns-clause-each : goal.returns-clause-each
returns-clause-each c =
    if_more _ _ c.graphs_of.result (answer (λ v. v.items) c.graphs_of.result c.args.bytes.now c.as_slice.result.now c.args.policy.now.chains c.args.orders.now c.as_slice.ensures c.graphs_of.ensures) (λ v t. t.many)

pub returns-clause-lawful : goal.returns-clause-lawful
returns-clause-lawful c =
    if_more _ _ c.graphs_of.result (answer (λ v. v.items) c.graphs_of.result c.args.bytes.now c.as_slice.result.now c.args.policy.now.chains c.args.orders.now c.as_slice.ensures c.graphs_of.ensures)
    (λ v t i graph is. (t.each i graph is).lawful)

pub returns-clause-staged : goal.returns-clause-staged
returns-clause-staged c =
    if_more _ _ c.graphs_of.result (answer (λ v. v.items) c.graphs_of.result c.args.bytes.now c.as_slice.result.now c.args.policy.now.chains c.args.orders.now c.as_slice.ensures c.graphs_of.ensures) (λ v t i graph is.
    c.lawful_graph_is_staged.ensures.staged graph (profiles_in (functions_at c.args.policy.now.chains i) (order_at c.args.orders.now i)) (t.each i graph is).full (t.each i graph is).lawful)

pub returns-clause-full : goal.returns-clause-full
returns-clause-full c =
    if_more _ _ c.graphs_of.result (answer (λ v. v.items) c.graphs_of.result c.args.bytes.now c.as_slice.result.now c.args.policy.now.chains c.args.orders.now c.as_slice.ensures c.graphs_of.ensures)
    (λ v t i graph is. (t.each i graph is).full)
