use Rattle.std.specs.Prelude.{◌≡◌, List, drop}
use Rattle.burst_law.specs.Bursts.{Message}
use Rattle.burst_law.specs.Noting.{settled_listed}
use Rattle.settled_notes.specs.Settling.{SameDrops, AddsNoLine}
use Rattle.settled_notes.proofs.settling.settle_listed.Given as goal

abbrev pub invariant-loop-note : goal.invariant-loop-note
invariant-loop-note g l =
    (ends : List Message) → SameDrops l.fates ends →
    (settled_listed g.F.Function.notes l.positions ends l.functions (drop l.note-index l.listed) ≡ settled_listed g.F.Function.notes l.positions ends l.fn.functions l.listed)
    × (AddsNoLine g.F.Function.rows g.F.Function.notes l.positions ends l.fn.functions l.listed → AddsNoLine g.F.Function.rows g.F.Function.notes l.positions ends l.functions (drop l.note-index l.listed))
