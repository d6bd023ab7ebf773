-- Believed: a firewall: how it is declared, what it decides, and what it does as a function of a chain.
use Rattle.std.specs.Prelude.{ℕ, List, [], ◌∷◌, ◌++◌, Bool, true, Option, Some, None, fold, position}
use Rattle.std.specs.Option.{option_map_or}
use Rattle.policy_text.specs.declared.policy.FunctionDecl.{FunctionDecl}
use Rattle.policy_text.specs.declared.seen.Seen.{Seen}
use Rattle.policy_text.specs.Meeting.{is_fitting}
use Rattle.frame_seen.specs.Seeing.{seen_with}
use Rattle.action_profile.specs.Profiles.{profile_of}
use Rattle.action_profile.specs.declared.kind.Kind.TheVariants as kinds
use Rattle.chain_walk.specs.Shown.{Shown, Values}
use Rattle.chain_walk.specs.declared.fixed.Fixed.{Fixed}
use Rattle.chain_walk.specs.Step.{Step, Behaviour, nothing}
use Rattle.packet_function.specs.Deciding.{Deciding}
use Rattle.packet_function.specs.declared.deciding.DecidingLine.{DecidingLine}
use Rattle.packet_function.specs.declared.deciding.DecidingLine.TheVariants as deciding
use Rattle.packet_function.specs.declared.deciding.SettingKey.TheVariants as keys
use Rattle.function_lines.specs.KindLines.{said_by}
use Rattle.function_lines.specs.Rules.{first_met}
use Rattle.nf_filter.specs.declared.firewall.Firewall.{Firewall}
use Rattle.nf_filter.specs.declared.lines.FirewallLine.{FirewallLine}
use Rattle.nf_filter.specs.declared.lines.FirewallLine.TheVariants as lines
use Rattle.nf_filter.specs.Lines.{firewall_lines}
use Rattle.nf_filter.specs.Verdicts.{verdict_by}

-- without any line, every packet passes
abbrev pub open_firewall : Firewall
open_firewall = record { default = true; rules = [] }

-- a firewall with the content of one more line
abbrev pub with_line : Firewall → FirewallLine → Firewall
with_line f (lines.Default allow) = record f { default = allow }
with_line f (lines.Rule rule) = record f { rules = f.rules ++ rule ∷ [] }

-- what these lines make, one after another
abbrev pub firewall_by : List FirewallLine → Firewall
firewall_by said = fold with_line open_firewall said

-- the firewall that is declared
abbrev pub firewall_of : FunctionDecl → Firewall
firewall_of decl = firewall_by (said_by firewall_lines decl.settings)

-- the first rule whose clauses are all met decides, and else the default
unfoldable pub passes : Firewall → Seen → Bool
passes f seen = option_map_or (λ rule. rule.allow) (first_met (λ rule. rule.fit) seen f.rules) f.default

-- what clauses see of a packet with these values
abbrev pub all_seen : Values → Fixed → Seen
all_seen values fixed = seen_with values fixed.ether_type fixed.proto fixed.tcp_flags

-- a firewall judges by what it is shown, writes nothing, and stays unchanged
abbrev pub firewall_step : Firewall → Shown → Step Firewall
firewall_step f shown = record { after = f; verdict = verdict_by (passes f (all_seen shown.values shown.fixed)); written = nothing }

-- the line of the rule at this place, and else `set default`
abbrev pub line_at : Option ℕ → DecidingLine
line_at (Some place) = deciding.Rule place
line_at None = deciding.Set keys.Default

-- the line of the first rule whose clauses are all met decides, and else `set default`
abbrev pub firewall_decides : Deciding Firewall
firewall_decides f shown = line_at (position (λ rule. is_fitting rule.fit (all_seen shown.values shown.fixed)) f.rules) ∷ []

-- how firewalls behave
abbrev pub firewall_behaviour : Behaviour Firewall
firewall_behaviour = record { profile = λ f. profile_of kinds.Firewall; step = firewall_step }
