-- For proofs: the lines that report a state, each by itself.
use Rattle.std.specs.Prelude.{ℕ, List}
use Rattle.first_sight.specs.Lines.{rows_by}
use Rattle.nf_translate.specs.Balancers.{PlainBalancer, flow_line}
use Rattle.nf_translate.specs.Nats.{PlainNat, mapping_line}

abbrev pub flow_rows : PlainBalancer → List (List ℕ)
flow_rows b = rows_by (flow_line b.settings) b.flows

abbrev pub mapping_rows : PlainNat → List (List ℕ)
mapping_rows n = rows_by (mapping_line n.settings) n.mappings
