-- Believed: a signature: how it is declared, what it decides, and what it does as a function of a chain.
use Rattle.std.specs.Prelude.{ℕ, List, Bool, false, not, Option, Some, None, position}
use Rattle.packet_fields.specs.declared.field.Field.TheVariants.{Payload}
use Rattle.policy_text.specs.declared.policy.FunctionDecl.{FunctionDecl}
use Rattle.action_profile.specs.Profiles.{profile_of}
use Rattle.action_profile.specs.declared.kind.Kind.TheVariants as kinds
use Rattle.chain_walk.specs.Shown.{Shown}
use Rattle.chain_walk.specs.Step.{Step, Behaviour, nothing}
use Rattle.packet_function.specs.Deciding.{Deciding, rule_at}
use Rattle.function_lines.specs.KindLines.{said_by}
use Rattle.patterns.specs.Lines.{pattern_lines}
use Rattle.patterns.specs.Occurrences.{occurs, some_occurs}
use Rattle.nf_filter.specs.Verdicts.{verdict_by}
use Rattle.nf_filter.specs.declared.signature.Signature.{Signature}

-- the signature of these patterns
abbrev pub signature_by : List (List ℕ) → Signature
signature_by patterns = record { patterns = patterns }

-- the signature that is declared
abbrev pub signature_of : FunctionDecl → Signature
signature_of decl = signature_by (said_by pattern_lines decl.settings)

-- one of the patterns occurs in the payload, if there is one
abbrev pub is_found : List (List ℕ) → Option (List ℕ) → Bool
is_found patterns (Some payload) = some_occurs patterns payload
is_found patterns None = false

-- a signature drops a packet in which it finds a pattern, writes nothing, and stays unchanged
abbrev pub signature_step : Signature → Shown → Step Signature
signature_step s shown = record { after = s; verdict = verdict_by (not (is_found s.patterns (shown.values Payload))); written = nothing }

-- the place of the first pattern that occurs in the payload, counted from 0, if there is one
abbrev pub place_found : List (List ℕ) → Option (List ℕ) → Option ℕ
place_found patterns (Some payload) = position (λ pattern. occurs pattern payload) patterns
place_found patterns None = None

-- the line of the first pattern that occurs decides, and none if no pattern does
abbrev pub signature_decides : Deciding Signature
signature_decides s shown = rule_at (place_found s.patterns (shown.values Payload))

-- how signatures behave
abbrev pub signature_behaviour : Behaviour Signature
signature_behaviour = record { profile = λ s. profile_of kinds.Signature; step = signature_step }
