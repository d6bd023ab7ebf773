-- Believed: a redactor: how it is declared, and what it does as a function of a chain.
use Rattle.std.specs.Prelude.{ℕ, ◌+◌, List, [], ◌∷◌, if◌then◌else◌, Option, Some, None}
use Rattle.std.specs.Option.{option_map_or}
use Rattle.packet_fields.specs.declared.field.Field.TheVariants.{Payload}
use Rattle.policy_text.specs.declared.policy.FunctionDecl.{FunctionDecl}
use Rattle.action_profile.specs.Profiles.{profile_of}
use Rattle.action_profile.specs.declared.kind.Kind.TheVariants as kinds
use Rattle.chain_walk.specs.Shown.{Shown, Values}
use Rattle.chain_walk.specs.Step.{Step, Behaviour}
use Rattle.chain_walk.specs.declared.verdict.Verdict.TheVariants.{Pass}
use Rattle.packet_function.specs.Deciding.{Deciding}
use Rattle.packet_function.specs.declared.deciding.DecidingLine.{DecidingLine}
use Rattle.packet_function.specs.declared.deciding.DecidingLine.TheVariants.{Rule}
use Rattle.function_lines.specs.KindLines.{said_by}
use Rattle.patterns.specs.Lines.{pattern_lines}
use Rattle.patterns.specs.Occurrences.{occurs, some_occurs}
use Rattle.patterns.specs.Overwriting.{overwritten, redacted}
use Rattle.nf_mark.specs.declared.redactor.Redactor.{Redactor}

-- the redactor of these patterns
abbrev pub redactor_by : List (List ℕ) → Redactor
redactor_by patterns = record { patterns = patterns }

-- the redactor that is declared
abbrev pub redactor_of : FunctionDecl → Redactor
redactor_of decl = redactor_by (said_by pattern_lines decl.settings)

-- the payload with the patterns overwritten, none if none of them occurs in it
abbrev pub redacted_payload : List (List ℕ) → Option (List ℕ) → Option (List ℕ)
redacted_payload patterns (Some payload) = if some_occurs patterns payload then Some (redacted patterns payload) else None
redacted_payload patterns None = None

-- this is written as the payload, if there is something to write, and nothing else
abbrev pub to_payload : Option (List ℕ) → Values
to_payload new Payload = new
to_payload new f = None

-- a redactor overwrites its patterns in the payload, passes every packet, and stays unchanged
abbrev pub redactor_step : Redactor → Shown → Step Redactor
redactor_step r shown = record { after = r; verdict = Pass; written = to_payload (redacted_payload r.patterns (shown.values Payload)) }

-- how redactors behave
abbrev pub redactor_behaviour : Behaviour Redactor
redactor_behaviour = record { profile = λ r. profile_of kinds.Redactor; step = redactor_step }

-- The rules whose patterns occur in the payload, the first of them at this place. Each pattern is looked for in what the
-- patterns before it left.
abbrev pub rules_from : ℕ → List (List ℕ) → List ℕ → List DecidingLine
rules_from place [] payload = []
rules_from place (pattern ∷ later) payload =
    if occurs pattern payload then Rule place ∷ rules_from (place + 1) later (overwritten pattern payload) else rules_from (place + 1) later payload

-- each rule decides whose pattern is overwritten somewhere, if there is a payload
abbrev pub redactor_decides : Deciding Redactor
redactor_decides r shown = option_map_or (rules_from 0 r.patterns) (shown.values Payload) []
