-- Traces, worked out by hand: a packet through a marker and a hop, and one that no chain took.
use Rattle.std.specs.Prelude.{◌≡◌, ℕ, List, [], ◌∷◌, false, Some, None, codes, refl}
use Rattle.action_profile.specs.declared.kind.Kind.TheVariants as kinds
use Rattle.chain_walk.specs.declared.walk.Fate.TheVariants.{Out, Gone}
use Rattle.packet_function.specs.declared.deciding.DecidingLine.TheVariants.{Rule}
use Rattle.packet_fields.specs.Frames.{tags_len}
use Rattle.packet_fields.specs.Packets.{has_transport, is_ipv4, is_ipv6}
use Rattle.policy_text.specs.declared.policy.FunctionDecl.{FunctionDecl}
use Rattle.std.specs.Fmt.{digits}
use Rattle.trace_text.specs.Trace.{chain_line, chain_trace, field_lines, head_text, way_text}
use Rattle.trace_text.specs.Values.{change_line, value_line}
use Rattle.traced_walk.specs.Ways.{Way}
use Rattle.why_report.specs.Report.{OrderedChain}

marker : FunctionDecl
marker = record { name = codes "m"; line = 3; kind = kinds.Marker; settings = record { line = 4; words = codes "rule" ∷ codes "tos" ∷ codes "46" ∷ [] } ∷ [] }

hop : FunctionDecl
hop = record { name = codes "t"; line = 5; kind = kinds.Hop; settings = [] }

chain : OrderedChain
chain = record {
  declared = record { name = codes "main"; line = 2; fit = record { clauses = [] }; functions = marker ∷ hop ∷ []; statements = [] };
  order = marker ∷ hop ∷ [];
}

-- a UDP packet of this type of service and time to live, from 10.0.0.1, port 53, to 10.0.0.2, port 80
frame : ℕ → ℕ → List ℕ
frame tos ttl =
    2 ∷ 0 ∷ 0 ∷ 0 ∷ 0 ∷ 2 ∷ 2 ∷ 0 ∷ 0 ∷ 0 ∷ 0 ∷ 1 ∷ 8 ∷ 0
    ∷ 69 ∷ tos ∷ 0 ∷ 28 ∷ 0 ∷ 0 ∷ 0 ∷ 0 ∷ ttl ∷ 17 ∷ 0 ∷ 0 ∷ 10 ∷ 0 ∷ 0 ∷ 1 ∷ 10 ∷ 0 ∷ 0 ∷ 2
    ∷ 0 ∷ 53 ∷ 0 ∷ 80 ∷ 0 ∷ 8 ∷ 0 ∷ 0 ∷ []

passed : Way
passed = record {
  class = Some 0;
  fate = Out (frame 46 63);
  acts = record { lines = Rule 0 ∷ []; dropped = false; before = frame 0 64; after = frame 46 64 }
      ∷ record { lines = []; dropped = false; before = frame 46 64; after = frame 46 63 } ∷ [];
}

both_changed : way_text (chain ∷ []) passed
    ≡ codes "chain main\nfunction m marker changed line 4\n  tos 0 46\nfunction t hop changed\n  ttl 64 63\nout\n"
unfolding chain_trace chain_line head_text field_lines change_line value_line digits tags_len is_ipv4 is_ipv6 has_transport passed chain marker hop frame
both_changed = refl

untaken : way_text (chain ∷ []) (record { class = None; fate = Out (frame 0 64); acts = [] }) ≡ codes "no chain\nout\n"
untaken = refl
