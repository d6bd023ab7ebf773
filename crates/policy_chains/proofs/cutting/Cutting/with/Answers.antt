use Rattle.policy_chains.proofs.Joining.{entry_joins, exit_joins, row_joins}
use Rattle.policy_chains.proofs.cutting.Cutting.with.Goals as goal

pub returns-in-Encap : goal.returns-in-Encap
returns-in-Encap c = entry_joins c.with_tunnel.result c.args.self c.args.name c.args.made c.in-Encap.tunnel c.in-Encap.is (c.with_tunnel.ensures.parts, c.with_tunnel.ensures.waiting)

pub returns-in-Decap : goal.returns-in-Decap
returns-in-Decap c =
    exit_joins c.with_tunnel-in-Decap.result c.args.self c.args.name c.args.made c.in-Decap.tunnel c.in-Decap.is (c.with_tunnel-in-Decap.ensures.parts, c.with_tunnel-in-Decap.ensures.waiting)

pub returns-in-Function : goal.returns-in-Function
returns-in-Function c =
    row_joins c.with_function.result c.args.self c.args.name c.args.made c.in-Function.function c.in-Function.is
    (c.with_function.ensures.parts, c.with_function.ensures.waiting)
