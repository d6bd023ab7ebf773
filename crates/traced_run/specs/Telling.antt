-- For proofs: what is kept of the acts of functions on a packet.
use Rattle.std.specs.Prelude.{List, [], ◌∷◌, ◌++◌, map, Bool, not, if◌then◌else◌, Some, None}
use Rattle.std.specs.Str.{bytes_eq}
use Rattle.traced_walk.specs.Traced.{Act}
use Rattle.traced_run.specs.declared.acts.Trace.{Trace}
use Rattle.traced_run.specs.declared.acts.TracedAct.{TracedAct}

-- what is kept of an act: whether the frame changed, and both frames if frames are kept
abbrev pub told : Bool → Act → TracedAct
told keeps act = record {
  lines = act.lines;
  dropped = act.dropped;
  changed = not (bytes_eq act.before act.after);
  frames = if keeps then Some (record { before = act.before; after = act.after }) else None;
}

-- a trace with these acts behind its own
abbrev pub with_acts : Trace → List Act → Trace
with_acts trace acts = record trace { acts = trace.acts ++ map (told trace.keeps_frames) acts }

abbrev pub with_act : Trace → Act → Trace
with_act trace act = with_acts trace (act ∷ [])
