-- Believed: a tagger: how it is declared, and what it does as a function of a chain.
use Rattle.std.specs.Prelude.{ℕ, List, ◌∷◌, ◌++◌, if◌then◌else◌, Option, None}
use Rattle.std.specs.Option.{option_map, option_and_then}
use Rattle.std.specs.Int.{w16, to_be_bytes}
use Rattle.packet_fields.specs.declared.field.Field.TheVariants.{Tag}
use Rattle.policy_text.specs.declared.policy.FunctionDecl.{FunctionDecl}
use Rattle.policy_text.specs.declared.seen.Seen.{Seen}
use Rattle.frame_seen.specs.Seeing.{seen_by}
use Rattle.action_profile.specs.Profiles.{profile_of}
use Rattle.action_profile.specs.declared.kind.Kind.TheVariants as kinds
use Rattle.chain_walk.specs.Shown.{Shown}
use Rattle.chain_walk.specs.Step.{Step, Behaviour}
use Rattle.chain_walk.specs.declared.verdict.Verdict.TheVariants.{Pass}
use Rattle.packet_function.specs.Deciding.{Deciding, rule_at}
use Rattle.function_lines.specs.KindLines.{said_by}
use Rattle.function_lines.specs.Rules.{first_met}
use Rattle.nf_mark.specs.declared.tagger.TagRule.{TagRule}
use Rattle.nf_mark.specs.declared.tagger.Tagger.{Tagger}
use Rattle.nf_mark.specs.DecidingRules.{place_met}
use Rattle.nf_mark.specs.OneField.{only}
use Rattle.nf_mark.specs.TaggerLines.{tagger_lines}

-- each line is a rule
abbrev pub tagger_by : List TagRule → Tagger
tagger_by said = record { rules = said }

-- the tagger that is declared
abbrev pub tagger_of : FunctionDecl → Tagger
tagger_of decl = tagger_by (said_by tagger_lines decl.settings)

-- a customer tag: its identifier 0x8100 (IEEE 802.1Q, 9.5), and its control information, the high byte first
abbrev pub tag_of : ℕ → List ℕ
tag_of control = 0x81 ∷ 0x00 ∷ to_be_bytes w16 control

-- the control information by the first rule whose clauses are all met
unfoldable pub control_for : Tagger → Seen → Option ℕ
control_for t seen = option_map (λ rule. rule.control) (first_met (λ rule. rule.fit) seen t.rules)

-- the same for a packet that has a place for tags, none if it gets no tag
abbrev pub new_control : Tagger → Shown → Option ℕ
new_control t shown = if shown.has Tag then control_for t (seen_by shown.values shown.fixed.proto) else None

-- the tags with one more, the outermost, which is first
abbrev pub tagged : Option ℕ → Option (List ℕ) → Option (List ℕ)
tagged control old = option_and_then (λ c. option_map (λ tags. tag_of c ++ tags) old) control

-- nothing else is written, every packet passes, and a tagger stays unchanged
abbrev pub tagger_step : Tagger → Shown → Step Tagger
tagger_step t shown = record { after = t; verdict = Pass; written = only Tag (tagged (new_control t shown) (shown.values Tag)) }

-- how taggers behave
abbrev pub tagger_behaviour : Behaviour Tagger
tagger_behaviour = record { profile = λ t. profile_of kinds.Tagger; step = tagger_step }

-- the place of the first rule whose clauses are all met, for a packet that has a place for tags
abbrev pub deciding_place : Tagger → Shown → Option ℕ
deciding_place t shown = if shown.has Tag then place_met (λ rule. rule.fit) (seen_by shown.values shown.fixed.proto) t.rules else None

-- this rule decides
abbrev pub tagger_decides : Deciding Tagger
tagger_decides t shown = rule_at (deciding_place t shown)
