-- Believed: what is counted for flows.
use Rattle.std.specs.Prelude.{ℕ, ◌+◌, ◌-◌, ◌^◌, min, List}
use Rattle.std.specs.Prelude.{unwrap_or}
use Rattle.first_sight.specs.FirstSight.{belonging, noted}
use Rattle.packet_function.specs.SameFlow.{is_same_flow}
use Rattle.packet_function.specs.declared.flow.FiveTuple.{FiveTuple}
use Rattle.nf_observe.specs.declared.flow.FlowCounts.{FlowCounts}

-- a count stops at the largest number of 64 bits
abbrev pub count_up_to : ℕ → ℕ
count_up_to n = min n (2 ^ 64 - 1)

-- before the first packet
abbrev pub no_packets : FlowCounts
no_packets = record { packets = 0; bytes = 0 }

-- with one more packet of this number of bytes
abbrev pub with_packet : FlowCounts → ℕ → FlowCounts
with_packet counts bytes = record { packets = count_up_to (counts.packets + 1); bytes = count_up_to (counts.bytes + bytes) }

-- the flows with one more packet of this flow, which has this number of bytes
abbrev pub counted : List (FiveTuple × FlowCounts) → FiveTuple → ℕ → List (FiveTuple × FlowCounts)
counted flows flow bytes = noted is_same_flow flows flow (with_packet (unwrap_or (belonging is_same_flow flows flow) no_packets) bytes)
