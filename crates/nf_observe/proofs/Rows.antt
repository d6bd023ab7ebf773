-- Worked rows: what a monitor counts and reports for a few packets, and how a limiter is configured and judges.
use Rattle.std.proofs.Common.{◌≡◌, ◌-◌, ◌^◌, List, [], ◌∷◌, refl}
use Rattle.std.specs.Prelude.{ℕ, false, Option, Some, None, codes, filter_map}
use Rattle.std.specs.Fmt.{digits}
use Rattle.std.specs.Net.Addr.{ipv4_bits}
use Rattle.std.specs.Net.Text.{hex}
use Rattle.std.specs.declared.net.ip_addr.IpAddr.{IpAddr}
use Rattle.std.specs.declared.net.ip_addr.IpAddr.TheVariants.{V4, V6}
use Rattle.packet_fields.specs.declared.field.Field.TheVariants.{SrcIp, DstIp, SrcPort, DstPort}
use Rattle.nf_observe.specs.Flows.{with_packet}
use Rattle.nf_observe.specs.Monitors.{flow_of, flows_after, monitor_by}
use Rattle.nf_observe.specs.StateLines.{endpoint_text, flow_line, source_line}
use Rattle.first_sight.specs.Addresses.{dotted}
use Rattle.chain_walk.specs.Shown.{Values, Shown}
use Rattle.chain_walk.specs.Step.{nothing}
use Rattle.chain_walk.specs.declared.verdict.Verdict.TheVariants.{Pass, Drop}
use Rattle.nf_observe.specs.Buckets.{full, filled}
use Rattle.nf_observe.specs.LimiterLines.{line_of}
use Rattle.nf_observe.specs.Limiters.{limiter_by, limited, limited_by, limiter_decides}
use Rattle.nf_observe.specs.declared.limiter.Limiter.{Limiter}
use Rattle.nf_observe.specs.declared.limiter.lines.LimiterLine.{LimiterLine}
use Rattle.packet_function.specs.declared.deciding.DecidingLine.TheVariants.{Set}
use Rattle.packet_function.specs.declared.deciding.SettingKey.TheVariants as keys
use Rattle.packet_function.specs.declared.flow.FiveTuple.{FiveTuple}
use Rattle.nf_observe.specs.declared.flow.FlowCounts.{FlowCounts}

-- 10.1.2.3 and 192.168.0.255
abbrev ten : IpAddr
ten = V4 (record { octets = 10 ∷ 1 ∷ 2 ∷ 3 ∷ [] })

abbrev home : IpAddr
home = V4 (record { octets = 192 ∷ 168 ∷ 0 ∷ 255 ∷ [] })

-- 2001:db8::1 and 2001:db8::2
abbrev first : IpAddr
first = V6 (record { segments = 0x2001 ∷ 0xdb8 ∷ 0 ∷ 0 ∷ 0 ∷ 0 ∷ 0 ∷ 1 ∷ [] })

abbrev second : IpAddr
second = V6 (record { segments = 0x2001 ∷ 0xdb8 ∷ 0 ∷ 0 ∷ 0 ∷ 0 ∷ 0 ∷ 2 ∷ [] })

-- ::a01:203, which is the same number as 10.1.2.3
abbrev as_ten : IpAddr
as_ten = V6 (record { segments = 0 ∷ 0 ∷ 0 ∷ 0 ∷ 0 ∷ 0 ∷ 0xa01 ∷ 0x203 ∷ [] })

-- UDP from 10.1.2.3, port 53, to 192.168.0.255, port 0, and the same without ports
abbrev with_ports : FiveTuple
with_ports = record { proto = 17; source = record { address = ten; port = Some 53 }; destination = record { address = home; port = Some 0 } }

abbrev without_ports : FiveTuple
without_ports = record { proto = 17; source = record { address = ten; port = None }; destination = record { address = home; port = None } }

abbrev flows_seen : List (FiveTuple × FlowCounts)
flows_seen = (with_ports, record { packets = 2; bytes = 104 }) ∷ (without_ports, record { packets = 1; bytes = 65535 }) ∷ []

-- a new flow goes last, a known one keeps its place, and an absent port never equals a number
counts_flows : flows_after (flows_after (flows_after (monitor_by []).flows (Some with_ports) (Some 20)) (Some without_ports) (Some 65535)) (Some with_ports) (Some 84) ≡ flows_seen
counts_flows = refl

-- a packet without a protocol, an address or a length isn't counted
skips_others : flows_after (flows_after flows_seen None (Some 20)) (Some with_ports) None ≡ flows_seen
skips_others = refl

-- UDP from 2001:db8::1, port 1000, to 2001:db8::2, port 53
abbrev of_version_6 : FiveTuple
of_version_6 = record { proto = 17; source = record { address = first; port = Some 1000 }; destination = record { address = second; port = Some 53 } }

abbrev values_6 : Values
values_6 SrcIp = Some (0x20 ∷ 0x01 ∷ 0x0d ∷ 0xb8 ∷ 0 ∷ 0 ∷ 0 ∷ 0 ∷ 0 ∷ 0 ∷ 0 ∷ 0 ∷ 0 ∷ 0 ∷ 0 ∷ 1 ∷ [])
values_6 DstIp = Some (0x20 ∷ 0x01 ∷ 0x0d ∷ 0xb8 ∷ 0 ∷ 0 ∷ 0 ∷ 0 ∷ 0 ∷ 0 ∷ 0 ∷ 0 ∷ 0 ∷ 0 ∷ 0 ∷ 2 ∷ [])
values_6 SrcPort = Some (3 ∷ 232 ∷ [])
values_6 DstPort = Some (0 ∷ 53 ∷ [])
values_6 field = None

-- from the IPv6 address that is the same number as 10.1.2.3, otherwise like the flow from there
abbrev from_ten_6 : FiveTuple
from_ten_6 = record with_ports { source = record { address = as_ten; port = Some 53 } }

-- sixteen bytes are an IPv6 address, and four an IPv4 address
sees_flow : flow_of values_6 (Some 17) ≡ Some of_version_6
sees_flow = refl

-- addresses of the two versions make two flows, though both are one number
parts_versions : flows_after (flows_after flows_seen (Some from_ten_6) (Some 48)) (Some with_ports) (Some 20)
    ≡ (with_ports, record { packets = 3; bytes = 124 }) ∷ (without_ports, record { packets = 1; bytes = 65535 }) ∷ (from_ten_6, record { packets = 1; bytes = 48 }) ∷ []
parts_versions = refl

-- both counts stop
stops : with_packet (record { packets = 2 ^ 64 - 1; bytes = 2 ^ 64 - 2 }) 20 ≡ record { packets = 2 ^ 64 - 1; bytes = 2 ^ 64 - 1 }
stops = refl

-- an absent port is reported as `-`, and port 0 as a number
tells_absent_port : endpoint_text without_ports.source ≡ codes "10.1.2.3 -"
unfolding endpoint_text dotted digits ipv4_bits
tells_absent_port = refl

tells_port : endpoint_text with_ports.destination ≡ codes "192.168.0.255 0"
unfolding endpoint_text dotted digits ipv4_bits
tells_port = refl

-- an IPv6 address is reported with all of its eight groups
tells_flow : flow_line of_version_6 (record { packets = 1; bytes = 48 }) ≡ codes "  flow 17 2001:db8:0:0:0:0:0:1 1000 2001:db8:0:0:0:0:0:2 53 packets 1 bytes 48\n"
unfolding flow_line endpoint_text hex digits
tells_flow = refl

tells_source : source_line first (record { tokens = 3; moment = 5 }) ≡ codes "  source 2001:db8:0:0:0:0:0:1 tokens 3 at 5\n"
unfolding source_line hex digits
tells_source = refl

-- 1,000 bytes a second, and 1,500 at once
abbrev limiter : Limiter
limiter = record { rate = 1000; burst = 1500; sources = [] }

-- the same, with one source
abbrev with_bucket : ℕ → ℕ → Limiter
with_bucket tokens moment = record limiter { sources = (ten, record { tokens = tokens; moment = moment }) ∷ [] }

abbrev said_lines : List ℕ → List ℕ → List LimiterLine
said_lines rate burst = filter_map line_of ((codes "set" ∷ codes "rate" ∷ rate ∷ []) ∷ (codes "set" ∷ codes "burst" ∷ burst ∷ []) ∷ [])

-- both settings are read; 0 and numbers of more than 32 bits are refused
reads_settings : limiter_by (said_lines (codes "1000") (codes "01500")) ≡ limiter
unfolding line_of
reads_settings = refl

refuses_zero : line_of (codes "set" ∷ codes "rate" ∷ codes "0" ∷ []) ≡ None
unfolding line_of
refuses_zero = refl

refuses_wide : line_of (codes "set" ∷ codes "burst" ∷ codes "4294967296" ∷ []) ≡ None
unfolding line_of
refuses_wide = refl

-- a new source may send its burst at once
pays_burst : limited limiter ten 1500 5 ≡ record { after = with_bucket 0 5; verdict = Pass; written = nothing }
pays_burst = refl

-- a millisecond brings one byte, which is not enough for two; the bucket is still filled by it
drops_two : limited (with_bucket 0 5) ten 2 1000005 ≡ record { after = with_bucket 1000000000 1000005; verdict = Drop; written = nothing }
drops_two = refl

-- no time passes backwards
stays_filled : limited (with_bucket 1000000000 1000005) ten 1 7 ≡ record { after = with_bucket 0 1000005; verdict = Pass; written = nothing }
stays_filled = refl

-- a source that was quiet for long has no more than its burst
fills_up : filled 1000 1500 (2 ^ 64 - 1) (record { tokens = 3; moment = 0 }) ≡ full 1500 (2 ^ 64 - 1)
fills_up = refl

-- what one source spends, another doesn't lack, and a new source is last
abbrev two_sources : IpAddr → Limiter
two_sources other = record limiter { sources = (ten, record { tokens = 0; moment = 5 }) ∷ (other, record { tokens = 500000000000; moment = 6 }) ∷ [] }

spends_its_own : limited (limited limiter ten 1500 5).after home 1000 6 ≡ record { after = two_sources home; verdict = Pass; written = nothing }
spends_its_own = refl

drops_one_of_two : (limited (two_sources home) ten 1 6).verdict ≡ Drop
drops_one_of_two = refl

-- addresses of the two versions are two sources, though both are one number
parts_sources : limited (limited limiter ten 1500 5).after as_ten 1000 6 ≡ record { after = two_sources as_ten; verdict = Pass; written = nothing }
parts_sources = refl

spends_in_its_version : (limited (two_sources as_ten) as_ten 500 6).verdict ≡ Pass
spends_in_its_version = refl

drops_in_its_version : (limited (two_sources as_ten) ten 500 6).verdict ≡ Drop
drops_in_its_version = refl

-- without an address or a length a packet passes, and nothing changes
passes_others : limited_by limiter None (Some 20) 5 ≡ record { after = limiter; verdict = Pass; written = nothing }
passes_others = refl

-- a packet from 10.1.2.3
abbrev from_ten : Values
from_ten SrcIp = Some (10 ∷ 1 ∷ 2 ∷ 3 ∷ [])
from_ten field = None

-- a millisecond after a burst was spent
abbrev shown_after : Option ℕ → Values → Shown
shown_after bytes values = record { values = values; has = λ field. false; fixed = record { time = 1000005; ether_type = Some 2048; proto = Some 17; ip_len = bytes; tcp_flags = None } }

-- the rate decides where the bucket doesn't pay
decides_unpaid : limiter_decides (with_bucket 0 5) (shown_after (Some 20) from_ten) ≡ Set keys.Rate ∷ []
decides_unpaid = refl

-- one byte is paid for by what came since, and a new source by its burst
decides_no_paid : limiter_decides (with_bucket 0 5) (shown_after (Some 1) from_ten) ≡ []
decides_no_paid = refl

decides_no_new : limiter_decides limiter (shown_after (Some 1500) from_ten) ≡ []
decides_no_new = refl

-- without a length a packet passes
decides_no_others : limiter_decides (with_bucket 0 5) (shown_after None from_ten) ≡ []
decides_no_others = refl
