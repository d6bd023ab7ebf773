-- For proofs: what is counted for a flow, over packets in a row.
use Rattle.std.specs.Prelude.{ℕ, List, length, filter, fold, unwrap_or}
use Rattle.std.specs.List.{sum_by}
use Rattle.first_sight.specs.FirstSight.{belonging}
use Rattle.nf_observe.specs.Flows.{count_up_to, no_packets, counted}
use Rattle.packet_function.specs.SameFlow.{is_same_flow}
use Rattle.packet_function.specs.declared.flow.FiveTuple.{FiveTuple}
use Rattle.nf_observe.specs.declared.flow.FlowCounts.{FlowCounts}

-- a packet: its flow and its bytes
abbrev pub Sight : Type 0
Sight = FiveTuple × ℕ

-- the flows after these packets were counted
abbrev pub flows_with : List (FiveTuple × FlowCounts) → List Sight → List (FiveTuple × FlowCounts)
flows_with flows packets = fold (λ l p. counted l p.0 p.1) flows packets

-- what is counted for a flow
abbrev pub counts_of : List (FiveTuple × FlowCounts) → FiveTuple → FlowCounts
counts_of flows flow = unwrap_or (belonging is_same_flow flows flow) no_packets

-- those of these packets that are of the flow
abbrev pub of_flow : FiveTuple → List Sight → List Sight
of_flow flow packets = filter (λ p. is_same_flow flow p.0) packets

-- the number of these packets, and the number of their bytes
abbrev pub totals : List Sight → FlowCounts
totals packets = record { packets = count_up_to (length packets); bytes = count_up_to (sum_by (λ p. p.1) packets) }
