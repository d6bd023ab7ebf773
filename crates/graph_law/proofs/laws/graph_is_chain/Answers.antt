use Rattle.std.proofs.Common.{map}
use Rattle.graph_law.proofs.FlowIsWalk.{graph_fits}
use Rattle.graph_law.proofs.laws.graph_is_chain.Goals as goal

pub returns : goal.returns
returns g c = λ b fixed graph functions values law calm lawful full. graph_fits b fixed graph functions values law calm
    (record {
      independent = record { unread = c.beside_is_independent.ensures.unread; stateless = c.beside_is_independent.ensures.stateless };
      owners = c.lawful_stage_has_owners.ensures;
      rises = c.stages_rise.ensures;
    })
    (c.lawful_graph_is_staged.ensures.staged graph (map b.profile functions) full lawful)
