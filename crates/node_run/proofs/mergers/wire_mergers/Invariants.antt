use Rattle.std.proofs.Common.{◌++◌, ℕ, ◌-◌, List, map}
use Rattle.packet_fields.specs.declared.field.Field.{Field}
use Rattle.node_run.specs.Nodes.{AreNodes}
use Rattle.node_run.specs.Edges.{ends_at, to_mergers}
use Rattle.node_run.specs.Wired.{MergersFit}
use Rattle.node_run.proofs.Edging.{WillJoin}
use Rattle.node_run.proofs.mergers.wire_mergers.Given as goal

abbrev pub invariant-loop-merger : goal.invariant-loop-merger
invariant-loop-merger g l =
    MergersFit l.mergers l.merger (l.mergers - l.merger) l.count l.bases l.inlets.items l.outlets ×
    ((fs : List _) (c : Field → ℕ) → AreNodes g.F.BranchWork.kit g.F.BranchWork.may l.initial.nodes.items fs c → AreNodes g.F.BranchWork.kit g.F.BranchWork.may l.nodes.items fs c) ×
    WillJoin (map ends_at l.initial.nodes.items ++ to_mergers l.mergers 0 l.count l.fn.bases l.fn.inlets.items l.fn.outlets) l.nodes.items (to_mergers l.mergers l.merger l.count l.bases l.inlets.items l.outlets)
