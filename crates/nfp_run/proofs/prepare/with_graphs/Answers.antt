use Rattle.std.proofs.Common.{length, subst, suc, sym}
use Rattle.graph_compile.specs.Facts.{IsFull, IsLawful}
use Rattle.graph_compile.specs.Lawful.{IsStaged}
use Rattle.graph_text.specs.Soundness.{EachGraph}
use Rattle.nfp_run.specs.Reading.{IsReady}
use Rattle.nfp_run.proofs.Preparations.{ready_with}
use Rattle.nfp_run.proofs.prepare.with_graphs.Goals as goal

pub returns-in-Ok-read_graphs-clause-ready : goal.returns-in-Ok-read_graphs-clause-ready
returns-in-Ok-read_graphs-clause-ready g c =
    let chains = c.args.judged.policy.chains in
    let graphs = c.in-Ok-read_graphs.graphs.items in
    subst (λ gs. IsReady (record { judged = c.args.judged; graphs = gs })) (sym c.new.ensures)
    (ready_with c.args.judged graphs c.requires.ordered c.requires.made c.requires.few c.in-Ok-read_graphs.ensures.each
    (subst (λ os. EachGraph (λ chain x. IsLawful x chain) chains os graphs) c.as_slice.ensures c.in-Ok-read_graphs.ensures.lawful)
    (subst (λ os. EachGraph (λ chain x. IsStaged chain 1 x.stages (suc (length chain))) chains os graphs) c.as_slice.ensures c.in-Ok-read_graphs.ensures.staged)
    (subst (λ os. EachGraph (λ chain x. IsFull x) chains os graphs) c.as_slice.ensures c.in-Ok-read_graphs.ensures.full))
