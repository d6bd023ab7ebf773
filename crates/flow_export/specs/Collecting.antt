-- For proofs: what a collector knows from the packets, one after the other.
use Rattle.std.specs.Prelude.{ℕ, ◌*◌, List, length}
use Rattle.std.specs.List.{flat_map, range_with_len}
use Rattle.flow_line.specs.declared.line.FlowLine.{FlowLine}
use Rattle.flow_export.specs.declared.layout.Header.{Header}
use Rattle.flow_export.specs.declared.span.Span5.{Span5}
use Rattle.flow_export.specs.Exports.{exported, header_of, lines_of, packet_count}

-- the number of packets that all lines take
abbrev pub packets_of : List FlowLine → ℕ
packets_of lines = packet_count (length (exported lines))

-- the lines whose records are in the packet of this number, counted from 0
abbrev pub carried_by : List FlowLine → ℕ → List FlowLine
carried_by lines number = lines_of (exported lines) number

-- those of the first packets, this number of them
abbrev pub carried_in : List FlowLine → ℕ → List FlowLine
carried_in lines count = flat_map (carried_by lines) (range_with_len 0 count)

-- the header of a packet
abbrev pub header_in : Span5 → List FlowLine → ℕ → Header
header_in span lines number = header_of span (30 * number) (length (carried_by lines number))
