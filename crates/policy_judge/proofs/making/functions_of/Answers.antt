use Rattle.policy_judge.proofs.NoLineRefused.{all_made}
use Rattle.policy_judge.proofs.making.functions_of.Goals as goal

pub returns-in-None : goal.returns-in-None
returns-in-None c = all_made c.args.chains.now c.chains.chain-index c.chains.least c.chains.functions.items c.new.result c.chains-test.false c.chains.invariant.least c.chains.invariant.functions c.in-None.is c.new.ensures
