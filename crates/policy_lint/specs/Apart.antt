-- For proofs: chains of limiters beside a nat that they make packets miss.
use Rattle.std.specs.Prelude.{List, [], Bool, true, false, not, ◌&&◌, ◌||◌, find, filter_map}
use Rattle.std.specs.List.{list_all, list_any}
use Rattle.std.specs.Option.{option_map, option_to_list}
use Rattle.action_profile.specs.declared.kind.Kind.{Kind}
use Rattle.action_profile.specs.declared.kind.Kind.TheVariants.{Monitor}
use Rattle.policy_text.specs.declared.clause.Clause.{Clause}
use Rattle.policy_text.specs.declared.clause.Clause.TheVariants.{Src}
use Rattle.policy_text.specs.declared.policy.ChainPolicy.{ChainPolicy}
use Rattle.policy_text.specs.declared.policy.FunctionDecl.{FunctionDecl}
use Rattle.policy_lint.specs.declared.finding.Finding.{Finding}
use Rattle.policy_lint.specs.declared.finding.Finding.TheVariants.{LimiterApart}
use Rattle.policy_lint.specs.declared.nats.NatLines.{NatLines}
use Rattle.policy_lint.specs.Behind.{limits}
use Rattle.policy_lint.specs.Gathering.{gathered}
use Rattle.policy_lint.specs.Nats.{nat_of}
use Rattle.policy_lint.specs.Opposing.{are_apart}

abbrev pub is_monitor : Kind → Bool
is_monitor Monitor = true
is_monitor kind = false

-- a limiter, or a monitor
abbrev pub limits_or_counts : FunctionDecl → Bool
limits_or_counts decl = limits decl || is_monitor decl.kind

-- there is a limiter, and nothing but limiters and monitors
abbrev pub limits_alone : List FunctionDecl → Bool
limits_alone functions = list_any limits functions && list_all limits_or_counts functions

-- the clause asks for sources of which some are inside
abbrev pub asks_some : NatLines → Clause → Bool
asks_some n (Src prefix bits) = not (are_apart prefix bits n.prefix n.bits)
asks_some n clause = false

-- a chain of limiters that takes packets from inside
abbrev pub takes_from : NatLines → ChainPolicy → Bool
takes_from n chain = limits_alone chain.functions && list_any (asks_some n) chain.fit.clauses

-- the first such chain before that of the nat
abbrev pub told_apart : List ChainPolicy → NatLines → List Finding
told_apart before n = option_to_list (option_map (λ (c : ChainPolicy). LimiterApart c.line n.inside_line) (find (takes_from n) before))

abbrev pub apart_in : List ChainPolicy → ChainPolicy → List Finding
apart_in before chain = gathered (λ others n. told_apart before n) [] (filter_map nat_of chain.functions)

abbrev pub apart : List ChainPolicy → List Finding
apart chains = gathered apart_in [] chains
