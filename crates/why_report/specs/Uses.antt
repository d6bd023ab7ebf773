-- For proofs: what is kept of a function's acts, and what is said of the lines that decided them.
use Rattle.std.specs.Prelude.{◌≡◌, ℕ, ◌+◌, ◌<◌, ◌^◌, ◌==◌, List, [], ◌∷◌, ◌++◌, length, map, count_by, slice_index, All, Bool, if◌then◌else◌}
use Rattle.std.specs.List.{Contains, flat_map, list_any}
use Rattle.declared_lines.specs.DeclaredLines.{deciders, number_of}
use Rattle.declared_lines.specs.LinesOf.{lines_of}
use Rattle.declared_lines.specs.Roles.{LinesRise}
use Rattle.declared_lines.specs.declared.lines.DeclaredLines.{DeclaredLines}
use Rattle.packet_function.specs.declared.deciding.DecidingLine.{DecidingLine}
use Rattle.policy_text.specs.declared.policy.FunctionDecl.{FunctionDecl}
use Rattle.traced_walk.specs.Traced.{Act}
use Rattle.why_report.specs.Report.{counted, decided_lines, function_lines, function_text, hits, is_changed, line_text}
use Rattle.why_report.specs.declared.uses.FunctionUse.{FunctionUse}

-- the hits of each line that can decide
abbrev pub hits_of : FunctionDecl → List Act → List ℕ
hits_of decl acts = map (λ line. hits decl line acts) (deciders decl)

-- the counts of a function that did this
abbrev pub use_of : FunctionDecl → List Act → FunctionUse
use_of decl acts = record {
  saw = counted (length acts);
  changed = counted (count_by is_changed acts);
  dropped = counted (count_by (λ act. act.dropped) acts);
  hits = hits_of decl acts;
}

-- a count, one higher if this holds
abbrev pub raised : ℕ → Bool → ℕ
raised count holds = counted (count + (if holds then 1 else 0))

-- ---- one more act

-- Noted: the act was decided by these lines, and it dropped the packet or changed its frame where this is said. For each
-- declaration with these line numbers, the counts of its acts become those of its acts and this one.
abbrev pub NotesAct : DeclaredLines → List DecidingLine → Bool → Bool → FunctionUse → FunctionUse → Type 0
NotesAct lines deciding dropped changed old new =
    (decl : FunctionDecl) → (acts : List Act) → (act : Act) → lines ≡ lines_of decl → act.lines ≡ deciding → act.dropped ≡ dropped → is_changed act ≡ changed
    → old ≡ use_of decl acts → new ≡ use_of decl (acts ++ act ∷ [])

-- the same of the hits alone
abbrev pub NotesHits : DeclaredLines → List DecidingLine → List ℕ → List ℕ → Type 0
NotesHits lines deciding old new =
    (decl : FunctionDecl) → (acts : List Act) → (act : Act) → lines ≡ lines_of decl → act.lines ≡ deciding → old ≡ hits_of decl acts → new ≡ hits_of decl (acts ++ act ∷ [])

-- one of these roles is that of the line with this number
abbrev pub is_hit : FunctionDecl → List DecidingLine → ℕ → Bool
is_hit decl deciding line = list_any (λ role. number_of decl role == line) deciding

-- whether the line at this place among those that can decide is hit, for each declaration with these line numbers
abbrev pub TellsHit : DeclaredLines → List DecidingLine → ℕ → Bool → Type 0
TellsHit lines deciding place hit =
    (decl : FunctionDecl) → lines ≡ lines_of decl → place < length (deciders decl) → hit ≡ is_hit decl deciding (slice_index (deciders decl) place)

-- ---- the lines of a report

-- the line of a function with these counts
abbrev pub used_text : List ℕ → List ℕ → List ℕ → FunctionUse → List ℕ
used_text chain name kind used = function_text chain name kind used.saw used.changed used.dropped

-- behind a text stand these lines, each with its hits
abbrev pub AddsHits : List ℕ → List ℕ → List ℕ → List ℕ → Type 0
AddsHits lines hits old new = (hits_by : ℕ → ℕ) → hits ≡ map hits_by lines → new ≡ old ++ flat_map (λ line. line_text line (hits_by line)) lines

-- behind a text stand the lines of a function of this chain, for all acts of which these are the counts
abbrev pub AddsFunction : List ℕ → FunctionDecl → DeclaredLines → FunctionUse → List ℕ → List ℕ → Type 0
AddsFunction chain decl lines used old new = (acts : List Act) → lines ≡ lines_of decl → used ≡ use_of decl acts → new ≡ old ++ function_lines chain decl acts

-- ---- which lines decided

-- Exactly one line decided the act, and it is among those that can decide.
pub record DecidedByOne (decl : FunctionDecl) (act : Act) : Type 0 where
  pub line : ℕ
  pub alone : decided_lines decl act ≡ line ∷ []
  pub listed : Contains (deciders decl) line

-- One line decided each of these acts, which are fewer than 2^64, and the lines of the declaration stand in the order of
-- the text.
pub record OneDecides (decl : FunctionDecl) (acts : List Act) : Type 0 where
  pub rise : LinesRise decl
  pub each : All (DecidedByOne decl) acts
  pub few : length acts < 2 ^ 64

-- the line with this number decided none of these acts
abbrev pub DecidedNone : FunctionDecl → ℕ → List Act → Type 0
DecidedNone decl line acts = All (λ act. ¬ (Contains (decided_lines decl act) line)) acts
