-- The chains that were made of a policy without fault are its chains.
use Rattle.std.proofs.Common.{◌≡◌, ◌∙◌, List, [], ◌∷◌, map, refl, ap, sym, subst}
use Rattle.std.specs.Prelude.{IfSome, Ok}
use Rattle.nfp_outside.specs.Outside.{SlotView}
use Rattle.policy_judge.specs.Judging.{judged}
use Rattle.policy_judge.specs.declared.judged.Judged.{Judged}
use Rattle.plain_chains.specs.Plain.{chains_of}
use Rattle.plain_chains.specs.declared.chain.PlainChain.{PlainChain}
use Rattle.why_report.specs.Report.{all_in_order, in_order}
use Rattle.why_run.specs.Running.{ordered_of}
use Rattle.why_call.specs.Due.{chains_judged}
use Rattle.why_call.specs.Reporting.{IsReady, IsReadyOf}
use Rattle.why_call.proofs.ReadBytes.{if_told}

in_their_order : (chains : List PlainChain) → ordered_of chains ≡ all_in_order (map (λ c. c.declared) chains) (map (λ c. c.order) chains)
in_their_order [] = refl
in_their_order (c ∷ cs) = ap (λ l. in_order c.declared c.order ∷ l) (in_their_order cs)

pub ready_of : (old : SlotView) (policy : Judged) (chains : List PlainChain) → IfSome old.bytes (λ bytes. judged bytes ≡ Ok policy) → map (λ c. c.declared) chains ≡ policy.policy.chains →
    map (λ c. c.order) chains ≡ policy.orders →
    chains_of chains ≡ chains_judged policy → IsReady old chains
ready_of old policy chains told declared orders runs = if_told old.bytes _ _ (λ bytes is. subst (IsReadyOf chains) (sym is) (
  runs,
  in_their_order chains ∙ ap (λ cs. all_in_order cs (map (λ c. c.order) chains)) declared ∙ ap (all_in_order policy.policy.chains) orders,
)) told
