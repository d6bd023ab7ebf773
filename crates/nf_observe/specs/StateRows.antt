-- For proofs: the lines that report a state, each by itself.
use Rattle.std.specs.Prelude.{ℕ, List}
use Rattle.first_sight.specs.Lines.{rows_by}
use Rattle.nf_observe.specs.StateLines.{flow_line, source_line}
use Rattle.nf_observe.specs.declared.limiter.Limiter.{Limiter}
use Rattle.nf_observe.specs.declared.monitor.Monitor.{Monitor}

abbrev pub monitor_rows : Monitor → List (List ℕ)
monitor_rows m = rows_by (λ place flow. flow_line flow.0 flow.1) m.flows

abbrev pub limiter_rows : Limiter → List (List ℕ)
limiter_rows l = rows_by (λ place source. source_line source.0 source.1) l.sources
