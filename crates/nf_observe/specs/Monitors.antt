-- Believed: a monitor: how it is declared, what it counts, and the lines that report its state.
use Rattle.std.specs.Prelude.{ℕ, List, [], Option, Some, None}
use Rattle.std.specs.Option.{option_map}
use Rattle.std.specs.declared.net.ip_addr.IpAddr.{IpAddr}
use Rattle.frame_seen.specs.Seeing.{seen_by, source_address, destination_address}
use Rattle.action_profile.specs.Profiles.{profile_of}
use Rattle.action_profile.specs.declared.kind.Kind.TheVariants as kinds
use Rattle.chain_walk.specs.Shown.{Values, Shown}
use Rattle.chain_walk.specs.Step.{Step, Behaviour, nothing}
use Rattle.chain_walk.specs.declared.verdict.Verdict.TheVariants.{Pass}
use Rattle.function_lines.specs.KindLines.{KindLines, never_clash}
use Rattle.first_sight.specs.FirstSight.{lines_by}
use Rattle.packet_function.specs.Deciding.{Deciding}
use Rattle.nf_observe.specs.Flows.{counted}
use Rattle.nf_observe.specs.StateLines.{flow_line}
use Rattle.nf_observe.specs.declared.monitor.build.MonitorLine.{MonitorLine}
use Rattle.packet_function.specs.declared.flow.Endpoint.{Endpoint}
use Rattle.packet_function.specs.declared.flow.FiveTuple.{FiveTuple}
use Rattle.nf_observe.specs.declared.flow.FlowCounts.{FlowCounts}
use Rattle.nf_observe.specs.declared.monitor.Monitor.{Monitor}

-- no line is a line of a monitor
abbrev pub monitor_lines : KindLines MonitorLine
monitor_lines = record { line_of = λ words. None; required = []; clashes = never_clash }

-- the monitor that is declared has seen no flow
abbrev pub monitor_by : List MonitorLine → Monitor
monitor_by said = record { flows = [] }

-- an address and a port, if the address is known
abbrev pub endpoint_by : Option IpAddr → Option ℕ → Option Endpoint
endpoint_by address port = option_map (λ known. record { address = known; port = port }) address

-- the flow, if protocol and both endpoints are known
abbrev pub flow_by : Option ℕ → Option Endpoint → Option Endpoint → Option FiveTuple
flow_by (Some proto) (Some source) (Some destination) = Some (record { proto = proto; source = source; destination = destination })
flow_by proto source destination = None

-- the flow of a packet whose fields have these values, by the protocol of the IPv4 header (RFC 791, 3.1) or the next
-- header of the IPv6 header (RFC 8200, 3)
abbrev pub flow_of : Values → Option ℕ → Option FiveTuple
flow_of values protocol =
    let seen = seen_by values protocol in
    flow_by protocol (endpoint_by (source_address values) seen.sport) (endpoint_by (destination_address values) seen.dport)

-- the flows after a packet, which is counted if its flow and its length are known
abbrev pub flows_after : List (FiveTuple × FlowCounts) → Option FiveTuple → Option ℕ → List (FiveTuple × FlowCounts)
flows_after flows (Some flow) (Some bytes) = counted flows flow bytes
flows_after flows flow bytes = flows

-- A monitor counts a packet by its IP length, passes it and writes nothing. The IP length is IPv4's total length
-- (RFC 791, 3.1), and for IPv6 the 40 bytes of the header and its payload length (RFC 8200, 3).
abbrev pub monitor_step : Monitor → Shown → Step Monitor
monitor_step m shown = record {
  after = record { flows = flows_after m.flows (flow_of shown.values shown.fixed.proto) shown.fixed.ip_len };
  verdict = Pass;
  written = nothing;
}

-- how monitors behave
abbrev pub monitor_behaviour : Behaviour Monitor
monitor_behaviour = record { profile = λ m. profile_of kinds.Monitor; step = monitor_step }

-- no line of a monitor decides anything
abbrev pub monitor_decides : Deciding Monitor
monitor_decides m shown = []

-- a line for each flow
abbrev pub monitor_text : Monitor → List ℕ
monitor_text m = lines_by (λ place flow. flow_line flow.0 flow.1) m.flows
