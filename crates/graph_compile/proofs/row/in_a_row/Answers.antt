use Rattle.std.proofs.Common.{◌≡◌, true}
use Rattle.graph_compile.specs.Facts.{IsLawful, IsFull}
use Rattle.graph_compile.specs.InARow.{copies_nothing, graph_in_a_row}
use Rattle.graph_compile.proofs.InARow.{row-lawful, row-full, row-uncopied}
use Rattle.graph_compile.proofs.Making.{if_ok-same}
use Rattle.graph_compile.proofs.row.in_a_row.Goals as goal

pub returns-clause-lawful : goal.returns-clause-lawful
returns-clause-lawful c =
    let chain = c.args.profiles.now in
    if_ok-same c.graph_in_a_row.result (graph_in_a_row chain) (λ g. IsLawful g chain) c.graph_in_a_row.ensures (row-lawful chain)

pub returns-clause-full : goal.returns-clause-full
returns-clause-full c =
    if_ok-same c.graph_in_a_row.result (graph_in_a_row c.args.profiles.now) IsFull c.graph_in_a_row.ensures (row-full c.args.profiles.now)

pub returns-clause-uncopied : goal.returns-clause-uncopied
returns-clause-uncopied c =
    let chain = c.args.profiles.now in
    if_ok-same c.graph_in_a_row.result (graph_in_a_row chain) (λ g. copies_nothing g.stages ≡ true) c.graph_in_a_row.ensures (row-uncopied chain)
