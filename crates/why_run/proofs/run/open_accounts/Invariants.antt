use Rattle.std.proofs.Common.{◌≡◌, [], take}
use Rattle.why_account.specs.Accounts.{chain_accounts}
use Rattle.why_run.specs.Running.{ordered_of}
use Rattle.why_run.proofs.run.open_accounts.Given as goal

-- the accounts so far
abbrev pub invariant-chains : goal.invariant-chains
invariant-chains l = l.accounts ≡ chain_accounts 0 (ordered_of (take l.chain-index l.chains)) []
