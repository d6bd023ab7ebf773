use Rattle.graph_text.specs.Graphs.{graph_of_stages}
use Rattle.graph_text.proofs.Faultless.{no_fault_left}
use Rattle.graph_text.proofs.laws.lawful_stages_have_no_fault.Goals as goal

pub returns : goal.returns
returns c chain order profiles stages len full lawful =
    no_fault_left chain order profiles stages len lawful (c.lawful_graph_is_staged.ensures.staged (graph_of_stages profiles stages) profiles full lawful)
