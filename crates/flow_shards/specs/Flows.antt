-- Believed: what is counted for the flows of a capture, packet by packet.
use Rattle.std.specs.Prelude.{ℕ, List, [], Bool, ◌||◌, true, false, Option, Some, None, unwrap_or, min, max, fold, filter_map}
use Rattle.std.specs.Int.RustNames.{bit_or}
use Rattle.std.specs.Map.{values_of}
use Rattle.std.specs.Net.Addr.{ipv4_bits, ipv6_bits}
use Rattle.std.specs.declared.net.ip_addr.IpAddr.{IpAddr}
use Rattle.std.specs.declared.net.ip_addr.IpAddr.TheVariants.{V4, V6}
use Rattle.packet_fields.specs.Frames.{packet}
use Rattle.packet_fields.specs.Packets.{total_len, protocol, control_bits}
use Rattle.packet_fields.specs.Fields.{value}
use Rattle.capture_bytes.specs.Packets.{time_of}
use Rattle.capture_bytes.specs.declared.packet.Unit.{Unit as TimeUnit}
use Rattle.classifier.specs.declared.burst.Item.{Item}
use Rattle.first_sight.specs.FirstSight.{belonging, noted}
use Rattle.nf_observe.specs.Flows.{with_packet}
use Rattle.nf_observe.specs.Monitors.{flow_of}
use Rattle.packet_function.specs.SameFlow.{is_same_flow}
use Rattle.packet_function.specs.declared.flow.FiveTuple.{FiveTuple}
use Rattle.nf_observe.specs.declared.flow.FlowCounts.{FlowCounts}
use Rattle.flow_line.specs.declared.key.FlowKey.{FlowKey}
use Rattle.flow_line.specs.declared.line.FlowLine.{FlowLine}
use Rattle.flow_shards.specs.declared.sight.Sight.{Sight}

-- an address as a number, most significant byte first, and whether it is an IPv6 address
abbrev pub address_number : IpAddr → ℕ
address_number (V4 a) = ipv4_bits a
address_number (V6 a) = ipv6_bits a

abbrev pub is_wide : IpAddr → Bool
is_wide (V4 a) = false
is_wide (V6 a) = true

-- the key of a flow: it is wide if it has an IPv6 address
abbrev pub key_of : FiveTuple → FlowKey
key_of flow = record {
  wide = is_wide flow.source.address || is_wide flow.destination.address;
  proto = flow.proto;
  src = address_number flow.source.address;
  sport = flow.source.port;
  dst = address_number flow.destination.address;
  dport = flow.destination.port;
}

-- the flow of a frame, as a monitor sees it
abbrev pub flow_in : List ℕ → Option FiveTuple
flow_in frame = flow_of (λ f. value f frame) (protocol (packet frame))

-- what is seen of a packet, if its flow and its IP length are known
abbrev pub sight_by : Option FiveTuple → Option ℕ → ℕ → ℕ → ℕ → Option Sight
sight_by (Some flow) (Some bytes) number time flags = Some (record { flow = flow; bytes = bytes; number = number; time = time; flags = flags })
sight_by flow bytes number time flags = None

-- what is seen of a packet: absent TCP flags are 0
abbrev pub sight_of : TimeUnit → Item → Option Sight
sight_of unit item =
    let frame = item.packet.frame in
    sight_by (flow_in frame) (total_len (packet frame)) item.number (time_of unit item.packet) (unwrap_or (control_bits (packet frame)) 0)

-- the line of a flow before its first packet is counted
abbrev pub first_line : Sight → FlowLine
first_line s = record { key = key_of s.flow; packets = 0; bytes = 0; first = s.number; begun = s.time; last = s.time; flags = 0 }

-- packets and bytes with one more packet, as a monitor counts them
abbrev pub counts_with : FlowLine → Sight → FlowCounts
counts_with line s = with_packet (record { packets = line.packets; bytes = line.bytes }) s.bytes

-- a line with one more packet: its times are the least and the greatest of its packets
abbrev pub with_sight : FlowLine → Sight → FlowLine
with_sight line s = record line { packets = (counts_with line s).packets; bytes = (counts_with line s).bytes; begun = min line.begun s.time; last = max line.last s.time; flags = bit_or line.flags s.flags }

-- lines, each with its flow, in the order of first sight
abbrev pub Lines : Type 0
Lines = List (FiveTuple × FlowLine)

-- the lines with one more packet: that of a flow that was seen keeps its place, and a new one goes last
abbrev pub counted : Lines → Sight → Lines
counted lines s = noted is_same_flow lines s.flow (with_sight (unwrap_or (belonging is_same_flow lines s.flow) (first_line s)) s)

abbrev pub counted_all : Lines → List Sight → Lines
counted_all lines sights = fold counted lines sights

-- the lines after these packets were counted too
abbrev pub flows_from : TimeUnit → Lines → List Item → Lines
flows_from unit lines items = counted_all lines (filter_map (sight_of unit) items)

-- what is counted for a capture with these packets
abbrev pub flows : TimeUnit → List Item → List FlowLine
flows unit items = values_of (flows_from unit [] items)
