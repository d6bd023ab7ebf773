-- For proofs: the same of what is kept of the acts.
use Rattle.std.specs.Prelude.{ℕ, List, [], ◌++◌, map, Bool, Option, Some, None, not, if◌then◌else◌, codes}
use Rattle.std.specs.List.{flat_map, zip}
use Rattle.action_profile.specs.Kinds.{kind_name}
use Rattle.action_profile.specs.declared.kind.Kind.{Kind}
use Rattle.chain_walk.specs.declared.walk.Fate.{Fate}
use Rattle.declared_lines.specs.DeclaredLines.{number_of}
use Rattle.policy_text.specs.declared.policy.FunctionDecl.{FunctionDecl}
use Rattle.trace_text.specs.Trace.{chain_line, changes_text, fate_line, head_text, lines_text, verb}
use Rattle.traced_run.specs.declared.acts.Frames.{Frames}
use Rattle.traced_run.specs.declared.acts.TracedAct.{TracedAct}
use Rattle.why_report.specs.Report.{OrderedChain}

abbrev pub kept_changes : Kind → Option Frames → List ℕ
kept_changes kind None = []
kept_changes kind (Some frames) = changes_text kind frames.before frames.after

abbrev pub kept_act : FunctionDecl → TracedAct → List ℕ
kept_act decl act =
    head_text decl.name (kind_name decl.kind) (verb act.dropped act.changed) ++ (lines_text (map (number_of decl) act.lines) ++ (codes "\n"
    ++ (if not act.dropped then (if act.changed then kept_changes decl.kind act.frames else []) else [])))

-- the text of an act of the function of this declaration, if there is one
abbrev pub kept_at : Option FunctionDecl → TracedAct → List ℕ
kept_at None act = []
kept_at (Some decl) act = kept_act decl act

abbrev pub kept_acts : List FunctionDecl → List TracedAct → List ℕ
kept_acts order acts = flat_map (λ x. kept_act x.0 x.1) (zip order acts)

abbrev pub kept_trace : OrderedChain → List TracedAct → Fate → List ℕ
kept_trace chain acts fate = chain_line chain.declared.name ++ (kept_acts chain.order acts ++ fate_line chain.order fate)
