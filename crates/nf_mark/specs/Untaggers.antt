-- Believed: an untagger: how it is declared, and what it does as a function of a chain.
use Rattle.std.specs.Prelude.{ℕ, List, [], length, drop, ◌==◌, if◌then◌else◌, Option, Some, None}
use Rattle.packet_fields.specs.declared.field.Field.TheVariants.{Tag}
use Rattle.policy_text.specs.declared.policy.FunctionDecl.{FunctionDecl}
use Rattle.action_profile.specs.Profiles.{profile_of}
use Rattle.action_profile.specs.declared.kind.Kind.TheVariants as kinds
use Rattle.chain_walk.specs.Shown.{Shown}
use Rattle.chain_walk.specs.Step.{Step, Behaviour}
use Rattle.chain_walk.specs.declared.verdict.Verdict.TheVariants.{Pass}
use Rattle.packet_function.specs.Deciding.{Deciding}
use Rattle.function_lines.specs.KindLines.{said_by}
use Rattle.nf_mark.specs.declared.no_lines.NoLine.{NoLine}
use Rattle.nf_mark.specs.declared.untagger.Untagger.{Untagger}
use Rattle.nf_mark.specs.NoLines.{no_lines}
use Rattle.nf_mark.specs.OneField.{only}

-- all untaggers are equal
abbrev pub untagger_by : List NoLine → Untagger
untagger_by said = record {}

-- the untagger that is declared
abbrev pub untagger_of : FunctionDecl → Untagger
untagger_of decl = untagger_by (said_by no_lines decl.settings)

-- the tags without the outermost, which is first and has four bytes (IEEE 802.1Q, 9.3); none if there is no tag
abbrev pub untagged : Option (List ℕ) → Option (List ℕ)
untagged None = None
untagged (Some tags) = if length tags == 0 then None else Some (drop 4 tags)

-- nothing else is written, every packet passes, and an untagger stays unchanged
abbrev pub untagger_step : Untagger → Shown → Step Untagger
untagger_step u shown = record { after = u; verdict = Pass; written = only Tag (untagged (shown.values Tag)) }

-- how untaggers behave
abbrev pub untagger_behaviour : Behaviour Untagger
untagger_behaviour = record { profile = λ u. profile_of kinds.Untagger; step = untagger_step }

-- no line of an untagger decides anything
abbrev pub untagger_decides : Deciding Untagger
untagger_decides u shown = []
