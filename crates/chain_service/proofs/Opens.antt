-- A service opens if each of its chains does.
use Rattle.std.proofs.Common.{◌≡◌, List, [], ◌∷◌, map, refl, ap, sym, ◌∙◌}
use Rattle.std.specs.Prelude.{All}
use Rattle.policy_text.specs.declared.clause.Match.{Match}
use Rattle.policy_text.specs.declared.policy.ChainPolicy.{ChainPolicy}
use Rattle.chain_service.specs.Opening.{IsOpening, IsOpeningChain, fits_of}
use Rattle.chain_service.specs.declared.service.ServiceChain.{ServiceChain}

-- the clauses of chains are those that are declared for them
fits-declared : (chains : List ServiceChain) → map (λ c. c.fit) (map (λ c. c.declared) chains) ≡ fits_of chains
fits-declared [] = refl
fits-declared (c ∷ chains) = ap (λ fits. c.declared.fit ∷ fits) (fits-declared chains)

pub opens : (classes : List Match) (chains : List ServiceChain) (declared : List ChainPolicy) → classes ≡ map (λ c. c.fit) declared → map (λ c. c.declared) chains ≡ declared → All IsOpeningChain chains →
    IsOpening (record { classes = classes; chains = chains })
opens classes chains declared told same opening = record {
  chains = opening;
  classes = told ∙ (ap (λ cs. map (λ c. c.fit) cs) (sym same) ∙ fits-declared chains);
}
