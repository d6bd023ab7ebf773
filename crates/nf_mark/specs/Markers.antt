-- Believed: a marker: how it is declared, and what it does as a function of a chain.
use Rattle.std.specs.Prelude.{ℕ, List, [], ◌∷◌, if◌then◌else◌, Option, None}
use Rattle.std.specs.Option.{option_map}
use Rattle.packet_fields.specs.declared.field.Field.TheVariants.{Tos}
use Rattle.policy_text.specs.declared.policy.FunctionDecl.{FunctionDecl}
use Rattle.policy_text.specs.declared.seen.Seen.{Seen}
use Rattle.frame_seen.specs.Seeing.{seen_with}
use Rattle.action_profile.specs.Profiles.{profile_of}
use Rattle.action_profile.specs.declared.kind.Kind.TheVariants as kinds
use Rattle.chain_walk.specs.Shown.{Shown}
use Rattle.chain_walk.specs.Step.{Step, Behaviour}
use Rattle.chain_walk.specs.declared.verdict.Verdict.TheVariants.{Pass}
use Rattle.packet_function.specs.Deciding.{Deciding, rule_at}
use Rattle.function_lines.specs.KindLines.{said_by}
use Rattle.function_lines.specs.Rules.{first_met}
use Rattle.nf_mark.specs.declared.marker.MarkRule.{MarkRule}
use Rattle.nf_mark.specs.declared.marker.Marker.{Marker}
use Rattle.nf_mark.specs.DecidingRules.{place_met}
use Rattle.nf_mark.specs.MarkerLines.{marker_lines}
use Rattle.nf_mark.specs.OneField.{only}

-- each line is a rule
abbrev pub marker_by : List MarkRule → Marker
marker_by said = record { rules = said }

-- the marker that is declared
abbrev pub marker_of : FunctionDecl → Marker
marker_of decl = marker_by (said_by marker_lines decl.settings)

-- the type of service of the first rule whose clauses are all met
unfoldable pub tos_for : Marker → Seen → Option ℕ
tos_for m seen = option_map (λ rule. rule.tos) (first_met (λ rule. rule.fit) seen m.rules)

-- what clauses see of a packet that is shown so
abbrev pub all_seen : Shown → Seen
all_seen shown = seen_with shown.values shown.fixed.ether_type shown.fixed.proto shown.fixed.tcp_flags

-- the type of service that is written to a packet that has one, none if it keeps its own
abbrev pub new_tos : Marker → Shown → Option ℕ
new_tos m shown = if shown.has Tos then tos_for m (all_seen shown) else None

-- The type of service is one byte, the second of the IPv4 header (RFC 791, 3.1), whose high six bits are the DSCP
-- (RFC 2474, 3). Nothing else is written, every packet passes, and a marker stays unchanged.
abbrev pub marker_step : Marker → Shown → Step Marker
marker_step m shown = record { after = m; verdict = Pass; written = only Tos (option_map (λ tos. tos ∷ []) (new_tos m shown)) }

-- how markers behave
abbrev pub marker_behaviour : Behaviour Marker
marker_behaviour = record { profile = λ m. profile_of kinds.Marker; step = marker_step }

-- the place of the first rule whose clauses are all met, for a packet that has a type of service
abbrev pub deciding_place : Marker → Shown → Option ℕ
deciding_place m shown = if shown.has Tos then place_met (λ rule. rule.fit) (all_seen shown) m.rules else None

-- this rule decides
abbrev pub marker_decides : Deciding Marker
marker_decides m shown = rule_at (deciding_place m shown)
