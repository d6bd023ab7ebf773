-- Believed: what is exported for lines of flows, as packets of NetFlow version 5.
use Rattle.std.specs.Prelude.{ℕ, ◌+◌, ◌-◌, ◌*◌, ◌/◌, ◌%◌, ◌^◌, min, List, ◌++◌, filter, length, take, drop, Bool, not, unwrap_or}
use Rattle.std.specs.Int.{div_ceil}
use Rattle.std.specs.List.{flat_map, range_with_len}
use Rattle.flow_line.specs.declared.line.FlowLine.{FlowLine}
use Rattle.flow_export.specs.declared.layout.Header.{Header}
use Rattle.flow_export.specs.declared.layout.Record.{Record}
use Rattle.flow_export.specs.declared.span.Span5.{Span5}
use Rattle.flow_export.specs.Layouts.{header_bytes, record_bytes}

-- a number of 32 bits stops at the largest
abbrev pub up_to_32 : ℕ → ℕ
up_to_32 n = min n (2 ^ 32 - 1)

-- the milliseconds from the least time of the capture's records to a time
abbrev pub millis : Span5 → ℕ → ℕ
millis span time = up_to_32 ((time - span.origin) / 1000000)

-- the export is as old as the capture's latest record, in milliseconds and since 1970 in nanoseconds
abbrev pub uptime : Span5 → ℕ
uptime span = millis span span.greatest

abbrev pub export_time : Span5 → ℕ
export_time span = span.origin + uptime span * 1000000

-- the header of a packet of this number of records, after this number of sent records
abbrev pub header_of : Span5 → ℕ → ℕ → Header
header_of span before count = record {
  version = 5;
  count = count;
  sys_uptime = uptime span;
  unix_secs = up_to_32 (export_time span / 1000000000);
  unix_nsecs = export_time span % 1000000000;
  flow_sequence = before;
  engine_type = 0;
  engine_id = 0;
  sampling_interval = 0;
}

-- the record of a line: what a capture doesn't show about a flow is 0, and so is an absent port
abbrev pub record_of : Span5 → FlowLine → Record
record_of span line = record {
  srcaddr = line.key.src;
  dstaddr = line.key.dst;
  nexthop = 0;
  input = 0;
  output = 0;
  d_pkts = up_to_32 line.packets;
  d_octets = up_to_32 line.bytes;
  first = millis span line.begun;
  last = millis span line.last;
  srcport = unwrap_or line.key.sport 0;
  dstport = unwrap_or line.key.dport 0;
  pad1 = 0;
  tcp_flags = line.flags;
  prot = line.key.proto;
  tos = 0;
  src_as = 0;
  dst_as = 0;
  src_mask = 0;
  dst_mask = 0;
  pad2 = 0;
}

-- version 5 has no addresses of IPv6, so only the lines of IPv4 are exported
abbrev pub is_exported : FlowLine → Bool
is_exported line = not line.key.wide

abbrev pub exported : List FlowLine → List FlowLine
exported lines = filter is_exported lines

-- the packet of these lines, after this number of sent records: a header, and a record for each line
abbrev pub packet_bytes : Span5 → ℕ → List FlowLine → List ℕ
packet_bytes span before lines = header_bytes (header_of span before (length lines)) ++ flat_map (λ line. record_bytes (record_of span line)) lines

-- the lines of a packet, counted from 0: thirty, or the last of them
abbrev pub lines_of : List FlowLine → ℕ → List FlowLine
lines_of lines number = take 30 (drop (30 * number) lines)

-- the number of packets that this number of records takes, at thirty a packet
abbrev pub packet_count : ℕ → ℕ
packet_count records = div_ceil records 30

-- the packets one after the other, each of thirty records but the last, which has the rest
unfoldable pub packets_bytes : Span5 → List FlowLine → List ℕ
packets_bytes span lines = flat_map (λ number. packet_bytes span (30 * number) (lines_of lines number)) (range_with_len 0 (packet_count (length lines)))

-- what is exported for all lines
abbrev pub export_bytes : Span5 → List FlowLine → List ℕ
export_bytes span lines = packets_bytes span (exported lines)
