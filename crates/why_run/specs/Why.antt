-- Believed: the trace that is due of the record that was asked for.
use Rattle.std.specs.Prelude.{ℕ, ◌-◌, ◌++◌, List, Option, Some, None, slice_get}
use Rattle.std.specs.Option.{option_map}
use Rattle.trace_text.specs.Trace.{record_line, way_text}
use Rattle.traced_walk.specs.Ways.{Way}
use Rattle.why_report.specs.Report.{OrderedChain}

-- the trace of the record with this number, counted from 1, with its first line, if these ways have it
abbrev pub trace_due : List OrderedChain → List Way → ℕ → Option (List ℕ)
trace_due chains ways number = option_map (λ way. record_line number ++ way_text chains way) (slice_get ways (number - 1))

-- the same where a record is asked for
abbrev pub asked_trace : List OrderedChain → List Way → Option ℕ → Option (List ℕ)
asked_trace chains ways None = None
asked_trace chains ways (Some number) = trace_due chains ways number
