use Rattle.graph_run.specs.Settling.{gone_at}
use Rattle.graph_run.proofs.Settled.{SettlesOn}
use Rattle.graph_run.proofs.noted.settle_all.Given as goal

abbrev pub invariant-loop-noted : goal.invariant-loop-noted
invariant-loop-noted g l = SettlesOn g.F.Function.notes (gone_at l.fate) l.fn.functions l.functions l.fn.notes.items l.noted-index
