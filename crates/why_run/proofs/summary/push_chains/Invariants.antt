use Rattle.std.proofs.Common.{◌≡◌, ◌++◌, List, take}
use Rattle.std.specs.List.{enumerate_from, flat_map}
use Rattle.traced_walk.specs.Ways.{Way}
use Rattle.why_account.specs.Accounts.{chain_accounts}
use Rattle.why_report.specs.Report.{chain_lines}
use Rattle.why_run.specs.Running.{ordered_of}
use Rattle.why_run.proofs.summary.push_chains.Given as goal

-- the lines of the chains so far
abbrev pub invariant-chains : goal.invariant-chains
invariant-chains l =
    (ways : List Way) → l.accounts ≡ chain_accounts 0 (ordered_of l.chains) ways
    → l.text.items ≡ l.fn.text.items ++ flat_map (λ x. chain_lines x.0 x.1 ways) (enumerate_from 0 (ordered_of (take l.place l.chains)))
