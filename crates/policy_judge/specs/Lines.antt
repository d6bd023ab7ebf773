-- Believed: the line that reports the fault of a policy.
use Rattle.std.specs.Prelude.{ℕ, List, [], ◌∷◌, ◌++◌, codes}
use Rattle.std.specs.Fmt.{decimal}
use Rattle.text_lines.specs.Texts.{line_of, spaced}
use Rattle.packet_fields.specs.Fields.{name_of}
use Rattle.dependency_table.specs.declared.action.Action.{Action}
use Rattle.dependency_table.specs.declared.action.Action.TheVariants.{Pass, Read, Write, Drop, State, Count, Whole}
use Rattle.policy_text.specs.declared.fault.TextFault.{TextFault}
use Rattle.policy_text.specs.declared.fault.TextFault.TheVariants as texts
use Rattle.policy_text.specs.declared.policy.FunctionDecl.{FunctionDecl}
use Rattle.policy_text.specs.Names.{name_at, names_at}
use Rattle.policy_check.specs.declared.fault.CheckFault.{CheckFault}
use Rattle.policy_check.specs.declared.fault.CheckFault.TheVariants as checks

-- what is wrong with a line of the text, counted from 1
abbrev pub at_line : ℕ → List ℕ → List ℕ
at_line line fault = line_of (codes "policy: line " ∷ decimal line ∷ codes ": " ∷ fault ∷ [])

abbrev pub too_long_line : List ℕ
too_long_line = line_of (codes "policy: too long" ∷ [])

-- the first fault of the text; bytes are counted from 0, lines and columns from 1
unfoldable pub text_line : TextFault → List ℕ
text_line (texts.NotUtf8 place) = line_of (codes "policy: not utf-8 at " ∷ decimal place ∷ [])
text_line (texts.Syntax line column) = line_of (codes "policy: line " ∷ decimal line ∷ codes " column " ∷ decimal column ∷ codes ": syntax" ∷ [])
text_line (texts.UnknownKind line) = at_line line (codes "unknown kind")
text_line (texts.DuplicateName line) = at_line line (codes "duplicate name")
text_line (texts.UnknownName line) = at_line line (codes "unknown name")
text_line (texts.TooManyFunctions line) = at_line line (codes "too many functions")
text_line (texts.TooManyChains line) = at_line line (codes "too many chains")
text_line (texts.TooManyRules line) = at_line line (codes "too many rules")
text_line texts.BadVersionLine = line_of (codes "policy: bad version line" ∷ [])
text_line texts.OutOfMemory = []

-- a line that the kind of its function refuses
unfoldable pub setting_line : ℕ → List ℕ
setting_line line = at_line line (codes "bad setting")

-- what a function does with a packet
abbrev pub action_text : Action → List ℕ
action_text (Read field) = codes "read " ++ name_of field
action_text (Write field) = codes "write " ++ name_of field
action_text Drop = codes "drop"
action_text State = codes "state"
action_text Count = codes "count"
action_text Whole = codes "whole"
action_text Pass = codes "pass"

-- a Priority of the first function over the second, if the second's action may not come before the first's
unfoldable pub priority_line : ℕ → List ℕ → List ℕ → List ℕ → List ℕ → List ℕ
priority_line line high low first second = line_of (
    codes "policy: line " ∷ decimal line ∷ codes ": priority " ∷ high ∷ codes " over " ∷ low
    ∷ codes " forbidden: " ∷ first ∷ codes " before " ∷ second ∷ []
    )

-- why a chain has no order, with the names of its functions
unfoldable pub check_line : List FunctionDecl → CheckFault → List ℕ
check_line functions (checks.Cycle places) = line_of (codes "policy: cycle" ∷ spaced (names_at functions places) ∷ [])
check_line functions (checks.PriorityForbidden high low line first second) =
    priority_line line (name_at functions high) (name_at functions low) (action_text first) (action_text second)
check_line functions checks.OutOfMemory = []
