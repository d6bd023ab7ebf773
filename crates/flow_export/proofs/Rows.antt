-- Worked rows: the packets of a few lines, byte for byte, worked out by hand from Cisco's layout.
use Rattle.std.proofs.Common.{◌≡◌, ℕ, List, [], ◌∷◌, ◌++◌, true, false, refl}
use Rattle.std.specs.Prelude.{Some}
use Rattle.flow_line.specs.declared.line.FlowLine.{FlowLine}
use Rattle.flow_export.specs.declared.span.Span5.{Span5}
use Rattle.flow_export.specs.Exports.{export_bytes, packets_bytes, header_of, record_of, packet_count}
use Rattle.flow_export.specs.Layouts.{header_bytes, record_bytes}

-- UDP from 10.0.0.1 and 10.0.0.9, port 1000, to 10.0.0.2, port 53: two packets of 28 bytes at 0 and 2 seconds, and one at 1 second
abbrev of_one : FlowLine
of_one = record { key = record { wide = false; proto = 17; src = 0x0a000001; sport = Some 1000; dst = 0x0a000002; dport = Some 53 }; packets = 2; bytes = 56; first = 1; begun = 0; last = 2000000000; flags = 0 }

abbrev of_nine : FlowLine
of_nine = record { key = record { wide = false; proto = 17; src = 0x0a000009; sport = Some 1000; dst = 0x0a000002; dport = Some 53 }; packets = 1; bytes = 28; first = 2; begun = 1000000000; last = 1000000000; flags = 0 }

-- the same number as 10.0.0.1, but an address of IPv6
abbrev of_six : FlowLine
of_six = record { key = record { wide = true; proto = 17; src = 0x0a000001; sport = Some 1000; dst = 0x0a000002; dport = Some 53 }; packets = 1; bytes = 48; first = 3; begun = 0; last = 0; flags = 0 }

abbrev two_seconds : Span5
two_seconds = record { origin = 0; greatest = 2000000000 }

abbrev header : List ℕ
header = 0 ∷ 5 ∷ 0 ∷ 2 ∷ 0 ∷ 0 ∷ 0x07 ∷ 0xd0 ∷ 0 ∷ 0 ∷ 0 ∷ 2 ∷ 0 ∷ 0 ∷ 0 ∷ 0 ∷ 0 ∷ 0 ∷ 0 ∷ 0 ∷ 0 ∷ 0 ∷ 0 ∷ 0 ∷ []

abbrev record_of_one : List ℕ
record_of_one =
    0x0a ∷ 0 ∷ 0 ∷ 1 ∷ 0x0a ∷ 0 ∷ 0 ∷ 2 ∷ 0 ∷ 0 ∷ 0 ∷ 0 ∷ 0 ∷ 0 ∷ 0 ∷ 0
    ∷ 0 ∷ 0 ∷ 0 ∷ 2 ∷ 0 ∷ 0 ∷ 0 ∷ 0x38 ∷ 0 ∷ 0 ∷ 0 ∷ 0 ∷ 0 ∷ 0 ∷ 0x07 ∷ 0xd0
    ∷ 0x03 ∷ 0xe8 ∷ 0 ∷ 0x35 ∷ 0 ∷ 0 ∷ 0x11 ∷ 0 ∷ 0 ∷ 0 ∷ 0 ∷ 0 ∷ 0 ∷ 0 ∷ 0 ∷ 0 ∷ []

abbrev record_of_nine : List ℕ
record_of_nine =
    0x0a ∷ 0 ∷ 0 ∷ 9 ∷ 0x0a ∷ 0 ∷ 0 ∷ 2 ∷ 0 ∷ 0 ∷ 0 ∷ 0 ∷ 0 ∷ 0 ∷ 0 ∷ 0
    ∷ 0 ∷ 0 ∷ 0 ∷ 1 ∷ 0 ∷ 0 ∷ 0 ∷ 0x1c ∷ 0 ∷ 0 ∷ 0x03 ∷ 0xe8 ∷ 0 ∷ 0 ∷ 0x03 ∷ 0xe8
    ∷ 0x03 ∷ 0xe8 ∷ 0 ∷ 0x35 ∷ 0 ∷ 0 ∷ 0x11 ∷ 0 ∷ 0 ∷ 0 ∷ 0 ∷ 0 ∷ 0 ∷ 0 ∷ 0 ∷ 0 ∷ []

-- one packet for both, and the flow of IPv6 isn't among them
exports_both : export_bytes two_seconds (of_one ∷ of_six ∷ of_nine ∷ []) ≡ header ++ record_of_one ++ record_of_nine
unfolding packets_bytes header_bytes record_bytes
exports_both = refl

-- without a flow of IPv4 nothing is sent
exports_nothing : export_bytes two_seconds (of_six ∷ []) ≡ []
unfolding packets_bytes
exports_nothing = refl

-- thirty records fill a packet, and one more takes a second
takes_packets : packet_count 0 ∷ packet_count 1 ∷ packet_count 30 ∷ packet_count 31 ∷ packet_count 60 ∷ packet_count 61 ∷ [] ≡ 0 ∷ 1 ∷ 1 ∷ 2 ∷ 2 ∷ 3 ∷ []
takes_packets = refl

-- numbers stop at the largest of 32 bits, and times before the origin count as the origin
abbrev early : Span5
early = record { origin = 5000000000; greatest = 9223372036854775807 }

stops : (record_of early (record of_one { packets = 4294967296; bytes = 18446744073709551615; begun = 4999999999; last = 9223372036854775807 })).d_pkts ≡ 4294967295
stops = refl

starts : (record_of early (record of_one { begun = 4999999999 })).first ≡ 0
starts = refl

-- the export is 4294967295 milliseconds after the origin at most, and its seconds are since 1970
late : (header_of early 30 7).sys_uptime ∷ (header_of early 30 7).unix_secs ∷ (header_of early 30 7).unix_nsecs ∷ (header_of early 30 7).flow_sequence ∷ (header_of early 30 7).count ∷ [] ≡ 4294967295 ∷ 4294972 ∷ 295000000 ∷ 30 ∷ 7 ∷ []
late = refl
