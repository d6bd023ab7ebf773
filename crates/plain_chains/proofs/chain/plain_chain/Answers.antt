use Rattle.std.proofs.Common.{ap, arith, length}
use Rattle.plain_chains.proofs.Opens.{few_places}
use Rattle.plain_chains.proofs.chain.plain_chain.Goals as goal

pub chain_parts-requires-clause-few : goal.chain_parts-requires-clause-few
chain_parts-requires-clause-few c = omega (arith, ap length c.as_slice.ensures, few_places c.args.declared c.args.order c.requires.ordered)
