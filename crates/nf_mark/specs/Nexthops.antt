-- Believed: a nexthop: how it is declared, and what it does as a function of a chain.
use Rattle.std.specs.Prelude.{ℕ, List, ◌&&◌, if◌then◌else◌, Option, Some, None}
use Rattle.packet_fields.specs.declared.field.Field.TheVariants.{LinkDst, LinkSrc}
use Rattle.policy_text.specs.declared.policy.FunctionDecl.{FunctionDecl}
use Rattle.frame_seen.specs.Seeing.{seen_by}
use Rattle.action_profile.specs.Profiles.{profile_of}
use Rattle.action_profile.specs.declared.kind.Kind.TheVariants as kinds
use Rattle.chain_walk.specs.Shown.{Shown, Values}
use Rattle.chain_walk.specs.Step.{Step, Behaviour, nothing}
use Rattle.chain_walk.specs.declared.verdict.Verdict.TheVariants.{Pass}
use Rattle.packet_function.specs.Deciding.{Deciding, rule_at}
use Rattle.function_lines.specs.KindLines.{said_by}
use Rattle.function_lines.specs.Rules.{first_met}
use Rattle.nf_mark.specs.declared.link_address.LinkAddress.{LinkAddress}
use Rattle.nf_mark.specs.declared.nexthop.Nexthop.{Nexthop}
use Rattle.nf_mark.specs.declared.nexthop.NexthopRule.{NexthopRule}
use Rattle.nf_mark.specs.DecidingRules.{place_met}
use Rattle.nf_mark.specs.Links.{link_bytes}
use Rattle.nf_mark.specs.NexthopLines.{nexthop_lines}

-- each line is a rule
abbrev pub nexthop_by : List NexthopRule → Nexthop
nexthop_by said = record { rules = said }

-- the nexthop that is declared
abbrev pub nexthop_of : FunctionDecl → Nexthop
nexthop_of decl = nexthop_by (said_by nexthop_lines decl.settings)

-- the first rule whose prefix holds the destination, for a packet that has both link addresses
abbrev pub rule_for : Nexthop → Shown → Option NexthopRule
rule_for n shown = if shown.has LinkDst && shown.has LinkSrc then first_met (λ rule. rule.fit) (seen_by shown.values shown.fixed.proto) n.rules else None

-- these link addresses are written, of the frame's destination and source (IEEE 802.3, 3.1.1), and nothing else
abbrev pub links : LinkAddress → LinkAddress → Values
links to from LinkDst = Some (link_bytes to)
links to from LinkSrc = Some (link_bytes from)
links to from f = None

-- if there is a rule
abbrev pub links_by : Option NexthopRule → Values
links_by (Some rule) = links rule.link_dst rule.link_src
links_by None = nothing

-- every packet passes, and a nexthop stays unchanged
abbrev pub nexthop_step : Nexthop → Shown → Step Nexthop
nexthop_step n shown = record { after = n; verdict = Pass; written = links_by (rule_for n shown) }

-- how nexthops behave
abbrev pub nexthop_behaviour : Behaviour Nexthop
nexthop_behaviour = record { profile = λ n. profile_of kinds.Nexthop; step = nexthop_step }

-- the place of the first rule whose prefix holds the destination, for a packet that has both link addresses
abbrev pub deciding_place : Nexthop → Shown → Option ℕ
deciding_place n shown = if shown.has LinkDst && shown.has LinkSrc then place_met (λ rule. rule.fit) (seen_by shown.values shown.fixed.proto) n.rules else None

-- this rule decides
abbrev pub nexthop_decides : Deciding Nexthop
nexthop_decides n shown = rule_at (deciding_place n shown)
