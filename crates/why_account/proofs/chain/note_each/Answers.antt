use Rattle.std.proofs.Common.{◌∙◌, ◌++◌, ◌∷◌, [], sym, arith}
use Rattle.std.specs.List.{enumerate_from}
use Rattle.why_account.specs.Accounts.{chain_account}
use Rattle.why_account.proofs.Parts.{all_done, one_done}
use Rattle.why_account.proofs.chain.note_each.Goals as goal

pub chains-preserved : goal.chains-preserved
chains-preserved c = λ first chains ways way keeps class are was.
    one_done (λ x. chain_account x.0 x.1 (ways ++ way ∷ [])) (λ x. chain_account x.0 x.1 ways) (enumerate_from first chains) c.chains.chains c.chains.chain-index c.chain-item.result c.note.new.self
    (omega arith) (c.chains.invariant first chains ways way keeps class are was) c.chain-item.is
    (λ x is. c.note.ensures x.0 x.1 ways way keeps class are (sym c.chain-item.is ∙ is))

pub returns : goal.returns
returns c = λ first chains ways way keeps class are was.
    all_done (λ x. chain_account x.0 x.1 (ways ++ way ∷ [])) (λ x. chain_account x.0 x.1 ways) (enumerate_from first chains) c.chains.chains c.chains.chain-index
    (omega arith) (c.chains.invariant first chains ways way keeps class are was)
