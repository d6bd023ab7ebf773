-- For proofs: what a monitor has of lines and packets.
use Rattle.std.specs.Prelude.{ℕ}
use Rattle.flow_line.specs.declared.line.FlowLine.{FlowLine}
use Rattle.packet_function.specs.declared.flow.FiveTuple.{FiveTuple}
use Rattle.nf_observe.specs.declared.flow.FlowCounts.{FlowCounts}
use Rattle.flow_shards.specs.declared.sight.Sight.{Sight}

-- the flow of a line, with its packets and bytes
abbrev pub counts_in : FiveTuple × FlowLine → FiveTuple × FlowCounts
counts_in line = (line.0, record { packets = line.1.packets; bytes = line.1.bytes })

-- the flow of a packet, and its bytes
abbrev pub shown : Sight → FiveTuple × ℕ
shown s = (s.flow, s.bytes)
