-- Believed: a firewall's lines: `set default allow`, `set default deny`, `rule allow` or `rule deny` with clauses.
use Rattle.std.specs.Prelude.{ℕ, List, [], ◌∷◌, Bool, true, false, if◌then◌else◌, Option, Some, None, codes}
use Rattle.std.specs.Option.{option_map}
use Rattle.std.specs.Str.{bytes_eq}
use Rattle.policy_text.specs.declared.clause.Match.{Match}
use Rattle.function_lines.specs.KindLines.{KindLines, never_clash}
use Rattle.function_lines.specs.Rules.{fit_of}
use Rattle.nf_filter.specs.declared.lines.FirewallLine.{FirewallLine}
use Rattle.nf_filter.specs.declared.lines.FirewallLine.TheVariants as lines

-- whether a packet may pass: `allow` or `deny`
abbrev pub verdict_of : List ℕ → Option Bool
verdict_of word = if bytes_eq word (codes "allow") then Some true else if bytes_eq word (codes "deny") then Some false else None

-- a rule of a verdict and clauses, if the words spell both
abbrev pub rule_of : Option Bool → Option Match → Option FirewallLine
rule_of (Some allow) (Some fit) = Some (lines.Rule (record { allow = allow; fit = fit }))
rule_of allow fit = None

abbrev pub default_of : List ℕ → List (List ℕ) → Option FirewallLine
default_of key (word ∷ []) = if bytes_eq key (codes "default") then option_map (λ allow. lines.Default allow) (verdict_of word) else None
default_of key words = None

-- what a line says, none if it is no line of a firewall
unfoldable pub line_of : List (List ℕ) → Option FirewallLine
line_of (lead ∷ word ∷ words) =
    if bytes_eq lead (codes "rule") then rule_of (verdict_of word) (fit_of words) else
    if bytes_eq lead (codes "set") then default_of word words else None
line_of words = None

-- the lines of a firewall, none of which is required
abbrev pub firewall_lines : KindLines FirewallLine
firewall_lines = record { line_of = line_of; required = []; clashes = never_clash }
