use Rattle.std.proofs.Common.{[], ◌∷◌}
use Rattle.std.proofs.lemmas.List.Elements.{All-nil, All-cons}
use Rattle.flow_line.specs.Versions.{HasFittingKey}
use Rattle.flows_tests.proofs.exported.two_flows_make_one_packet.Goals as goal

pub export-requires-clause-fits : goal.export-requires-clause-fits
export-requires-clause-fits g c = All-cons HasFittingKey c.line.result (c.line-2.result ∷ []) c.line.ensures (All-cons HasFittingKey c.line-2.result [] c.line-2.ensures (All-nil HasFittingKey))
