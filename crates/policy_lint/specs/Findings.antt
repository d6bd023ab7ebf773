-- For proofs: all that is odd in a policy.
use Rattle.std.specs.Prelude.{ℕ, List, [], ◌++◌, Bool, length, slice_get}
use Rattle.std.specs.Option.{option_map_or}
use Rattle.policy_text.specs.declared.policy.ChainPolicy.{ChainPolicy}
use Rattle.policy_text.specs.declared.policy.FunctionDecl.{FunctionDecl}
use Rattle.policy_check.specs.declared.fault.Order.{Order}
use Rattle.policy_lint.specs.declared.finding.Finding.{Finding}
use Rattle.policy_lint.specs.declared.finding.Finding.TheVariants.{ChainTaken, RuleCovered}
use Rattle.policy_lint.specs.declared.rule_line.RuleLine.{RuleLine}
use Rattle.policy_lint.specs.Apart.{apart}
use Rattle.policy_lint.specs.Behind.{unreached, limited_behind}
use Rattle.policy_lint.specs.Gathering.{Asking, gathered, covered}
use Rattle.policy_lint.specs.Limits.{told_limiter}
use Rattle.policy_lint.specs.Nats.{told_nats}
use Rattle.policy_lint.specs.Patterns.{told_patterns}
use Rattle.policy_lint.specs.Rules.{rules_of}
use Rattle.policy_lint.specs.Spelling.{told_fit, told_rules}
use Rattle.policy_lint.specs.Verdicts.{told_firewall}
use Rattle.policy_lint.specs.Versions.{alone_in}
use Rattle.policy_lint.specs.Walking.{walked}

-- chains and rules ask for clauses
abbrev pub chain_asking : Asking ChainPolicy
chain_asking = record { line = λ c. c.line; fit = λ c. c.fit; told = λ line by. ChainTaken line by }

abbrev pub rule_asking : Asking RuleLine
rule_asking = record { line = λ r. r.line; fit = λ r. r.fit; told = λ line by. RuleCovered line by }

-- what is odd in a function by itself: rules that one before them covers, rules, patterns, firewalls, limiters
abbrev pub told_function : List Bool → FunctionDecl → List Finding
told_function cuts decl =
    covered rule_asking (rules_of decl) ++ (told_rules decl.kind (rules_of decl) ++ (told_patterns cuts decl ++ (told_firewall decl ++ told_limiter decl)))

abbrev pub told_functions : List Bool → List FunctionDecl → List Finding
told_functions cuts functions = gathered (λ before decl. told_function cuts decl) [] functions

-- what is told of a chain, behind these and of this order
abbrev pub told_in : List Bool → List ℕ → List ChainPolicy → ChainPolicy → List Finding
told_in cuts order before chain =
    told_fit chain.line chain.fit
    ++ (told_functions cuts chain.functions ++ (alone_in before chain ++ (unreached chain.functions order ++ (limited_behind chain.functions order ++ walked chain order))))

-- the order of the chain at this place
abbrev pub order_at : List Order → ℕ → List ℕ
order_at orders place = option_map_or (λ o. o.positions) (slice_get orders place) []

abbrev pub told_at : List Bool → List Order → List ChainPolicy → ChainPolicy → List Finding
told_at cuts orders before chain = told_in cuts (order_at orders (length before)) before chain

-- By the lines that a comment cuts off: chains that none reaches, then chain by chain what is told of it, then nats, and chains of limiters beside them
abbrev pub findings : List Bool → List ChainPolicy → List Order → List Finding
findings cuts chains orders = covered chain_asking chains ++ (gathered (told_at cuts orders) [] chains ++ (told_nats chains ++ apart chains))
