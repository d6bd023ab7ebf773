use Rattle.std.proofs.Common.{◌≡◌, ◌++◌, ◌∷◌, [], ℕ, List, Bool, map}
use Rattle.std.specs.List.{enumerate_from}
use Rattle.traced_run.specs.Telling.{told}
use Rattle.traced_walk.specs.Ways.{Way}
use Rattle.why_report.specs.Report.{OrderedChain}
use Rattle.why_account.specs.Accounts.{chain_account, chain_accounts}
use Rattle.why_account.proofs.Parts.{done_to}
use Rattle.why_account.proofs.chain.note_each.Given as goal

-- the chains before this one are noted
abbrev pub invariant-chains : goal.invariant-chains
invariant-chains l =
    (first : ℕ) → (chains : List OrderedChain) → (ways : List Way) → (way : Way) → (keeps : Bool) → l.class ≡ way.class → l.acts ≡ map (told keeps) way.acts
    → l.initial.chains ≡ chain_accounts first chains ways
    → l.chains ≡ done_to (λ x. chain_account x.0 x.1 (ways ++ way ∷ [])) (λ x. chain_account x.0 x.1 ways) l.chain-index (enumerate_from first chains)
