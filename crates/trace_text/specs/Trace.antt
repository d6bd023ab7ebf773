-- Believed: the trace of a record: what each function did to it, and where it ended.
use Rattle.std.specs.Prelude.{ℕ, ◌-◌, List, [], ◌∷◌, ◌++◌, length, Bool, true, false, not, if◌then◌else◌, slice_get, Option, Some, None, codes}
use Rattle.std.specs.List.{flat_map, zip}
use Rattle.std.specs.Option.{option_map_or}
use Rattle.std.specs.Fmt.{decimal}
use Rattle.std.specs.Str.{bytes_eq}
use Rattle.action_profile.specs.Kinds.{kind_name}
use Rattle.action_profile.specs.Profiles.{profile_of}
use Rattle.action_profile.specs.declared.kind.Kind.{Kind}
use Rattle.chain_walk.specs.declared.walk.Fate.{Fate}
use Rattle.chain_walk.specs.declared.walk.Fate.TheVariants.{Out, Gone}
use Rattle.packet_fields.specs.Fields.{value}
use Rattle.packet_fields.specs.Writing.{all_fields}
use Rattle.policy_text.specs.declared.policy.FunctionDecl.{FunctionDecl}
use Rattle.text_lines.specs.Texts.{joined}
use Rattle.trace_text.specs.Values.{change_line}
use Rattle.traced_walk.specs.Traced.{Act}
use Rattle.traced_walk.specs.Ways.{Way}
use Rattle.why_report.specs.Report.{OrderedChain, decided_lines}

-- `record N`, the first line
unfoldable pub record_line : ℕ → List ℕ
record_line number = joined (codes "record " ∷ decimal number ∷ codes "\n" ∷ [])

-- `no record N`, if the capture has fewer records
unfoldable pub missing_line : ℕ → List ℕ
missing_line number = joined (codes "no record " ∷ decimal number ∷ codes "\n" ∷ [])

-- ---- what a function changed

-- `  frame OLD NEW`, the two lengths
unfoldable pub frame_line : ℕ → ℕ → List ℕ
frame_line old new = joined (codes "  frame " ∷ decimal old ∷ codes " " ∷ decimal new ∷ codes "\n" ∷ [])

-- the fields whose values differ, in field order
unfoldable pub field_lines : List ℕ → List ℕ → List ℕ
field_lines before after = flat_map (λ f. change_line f (value f before) (value f after)) all_fields

-- of a function that rewrites a frame whole the lengths of the frame, and of any other the fields
abbrev pub changes_text : Kind → List ℕ → List ℕ → List ℕ
changes_text kind before after = if (profile_of kind).whole then frame_line (length before) (length after) else field_lines before after

-- ---- the functions

-- what became of the packet
abbrev pub verb : Bool → Bool → List ℕ
verb dropped changed = if dropped then codes "dropped" else if changed then codes "changed" else codes "passed"

-- ` line L` for each line that decided
abbrev pub lines_text : List ℕ → List ℕ
lines_text lines = flat_map (λ line. codes " line " ++ decimal line) lines

-- `function NAME KIND passed`
unfoldable pub head_text : List ℕ → List ℕ → List ℕ → List ℕ
head_text name kind verb = joined (codes "function " ∷ name ∷ codes " " ∷ kind ∷ codes " " ∷ verb ∷ [])

-- a function: its line, and what it changed
abbrev pub act_parts : FunctionDecl → List ℕ → Bool → Bool → List ℕ → List ℕ → List ℕ
act_parts decl lines dropped changed before after =
    head_text decl.name (kind_name decl.kind) (verb dropped changed) ++ (lines_text lines ++ (codes "\n"
    ++ (if not dropped then (if changed then changes_text decl.kind before after else []) else [])))

abbrev pub act_text : FunctionDecl → Act → List ℕ
act_text decl act = act_parts decl (decided_lines decl act) act.dropped (not (bytes_eq act.before act.after)) act.before act.after

abbrev pub acts_text : List FunctionDecl → List Act → List ℕ
acts_text order acts = flat_map (λ x. act_text x.0 x.1) (zip order acts)

-- ---- the packet

unfoldable pub chain_line : List ℕ → List ℕ
chain_line name = joined (codes "chain " ∷ name ∷ codes "\n" ∷ [])

unfoldable pub dropped_line : List ℕ → List ℕ
dropped_line name = joined (codes "dropped " ∷ name ∷ codes "\n" ∷ [])

-- `out`, or `dropped FUNCTION`
abbrev pub fate_line : List FunctionDecl → Fate → List ℕ
fate_line order (Out frame) = codes "out\n"
fate_line order (Gone position) = option_map_or (λ decl. dropped_line decl.name) (slice_get order (position - 1)) []

-- the way through a chain
unfoldable pub chain_trace : OrderedChain → List Act → Fate → List ℕ
chain_trace chain acts fate = chain_line chain.declared.name ++ (acts_text chain.order acts ++ fate_line chain.order fate)

-- a packet that no chain took
abbrev pub untaken_trace : List ℕ
untaken_trace = codes "no chain\nout\n"

abbrev pub trace_of : List OrderedChain → Option ℕ → List Act → Fate → List ℕ
trace_of chains None acts fate = untaken_trace
trace_of chains (Some class) acts fate = option_map_or (λ chain. chain_trace chain acts fate) (slice_get chains class) []

-- the way of a packet, behind its first line
abbrev pub way_text : List OrderedChain → Way → List ℕ
way_text chains way = trace_of chains way.class way.acts way.fate
