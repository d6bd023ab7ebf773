use Rattle.why_run.proofs.Chains.{accounts_more}
use Rattle.why_run.proofs.run.open_accounts.Goals as goal

pub chains-preserved : goal.chains-preserved
chains-preserved c =
    accounts_more c.args.chains.now c.chains.chain-index c.chain-item.result c.chains.accounts c.add.new.self c.chains-test.true c.chain-item.is c.chains.invariant c.in_ok-add.ensures
