use Rattle.std.proofs.Common.{suc, length}
use Rattle.graph_compile.specs.Causes.{IsClosedForCause}
use Rattle.graph_compile.specs.Facts.{IsLawful, IsFull}
use Rattle.graph_compile.specs.Lawful.{IsStaged}
use Rattle.graph_compile.specs.Stages.{graph_of}
use Rattle.graph_compile.proofs.Filling.{graph-full, graph-caused}
use Rattle.graph_compile.proofs.FiveFacts.{lawful-from_staged}
use Rattle.graph_compile.proofs.Making.{graph-staged, if_ok-same}
use Rattle.graph_compile.proofs.placing.compile.Goals as goal

pub returns-clause-lawful : goal.returns-clause-lawful
returns-clause-lawful c =
    let chain = c.args.profiles.now in
    if_ok-same c.compiled.result (graph_of chain) (λ g. IsLawful g chain) c.compiled.ensures (lawful-from_staged (graph_of chain) chain (graph-staged chain))

pub returns-clause-staged : goal.returns-clause-staged
returns-clause-staged c =
    let chain = c.args.profiles.now in
    if_ok-same c.compiled.result (graph_of chain) (λ g. IsStaged chain 1 g.stages (suc (length chain))) c.compiled.ensures (graph-staged chain)

pub returns-clause-full : goal.returns-clause-full
returns-clause-full c =
    if_ok-same c.compiled.result (graph_of c.args.profiles.now) IsFull c.compiled.ensures (graph-full c.args.profiles.now)

pub returns-clause-caused : goal.returns-clause-caused
returns-clause-caused c =
    let chain = c.args.profiles.now in
    if_ok-same c.compiled.result (graph_of chain) (λ g. IsClosedForCause chain g.stages) c.compiled.ensures (graph-caused chain)
