-- For proofs: packets in order of time, and the counts of their flows if the last packet always ends its flow.
use Rattle.std.specs.Prelude.{ℕ, ◌≤◌, ⊤, List, [], ◌∷◌, unwrap_or}
use Rattle.first_sight.specs.FirstSight.{belonging, noted}
use Rattle.packet_function.specs.SameFlow.{is_same_flow}
use Rattle.flow_line.specs.declared.line.FlowLine.{FlowLine}
use Rattle.flow_shards.specs.Flows.{Lines, first_line, with_sight}
use Rattle.flow_shards.specs.declared.sight.Sight.{Sight}

-- no packet is earlier than this time or than a packet before it
abbrev pub AreInOrderOfTime : ℕ → List Sight → Type 0
AreInOrderOfTime time [] = ⊤
AreInOrderOfTime time (s ∷ sights) = (time ≤ s.time) × AreInOrderOfTime s.time sights

-- a line with one more packet, at which the flow ends
abbrev pub ending_at : FlowLine → Sight → FlowLine
ending_at line s = record (with_sight line s) { begun = line.begun; last = s.time }

-- from the time of the first packet of a flow to that of its last
abbrev pub counted_to_last : Lines → Sight → Lines
counted_to_last lines s = noted is_same_flow lines s.flow (ending_at (unwrap_or (belonging is_same_flow lines s.flow) (first_line s)) s)
