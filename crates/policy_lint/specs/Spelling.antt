-- For proofs: clauses that are hardly meant as they are spelled.
use Rattle.std.specs.Prelude.{ℕ, ◌-◌, ◌%◌, ◌^◌, List, [], ◌++◌, Bool, true, false, not, ◌&&◌, ◌==◌}
use Rattle.std.specs.List.{list_any}
use Rattle.action_profile.specs.declared.kind.Kind.{Kind}
use Rattle.action_profile.specs.declared.kind.Kind.TheVariants.{Marker}
use Rattle.policy_text.specs.declared.clause.Clause.{Clause}
use Rattle.policy_text.specs.declared.clause.Clause.TheVariants.{Src, Dst, Src6, Dst6}
use Rattle.policy_text.specs.declared.clause.Match.{Match}
use Rattle.policy_lint.specs.declared.finding.Finding.{Finding}
use Rattle.policy_lint.specs.declared.finding.Finding.TheVariants.{ClausesClash, BitsPastLength, MarksIpv6}
use Rattle.policy_lint.specs.declared.rule_line.RuleLine.{RuleLine}
use Rattle.policy_lint.specs.declared.versions.Version.TheVariants.{Ipv6}
use Rattle.policy_lint.specs.Gathering.{told_if, gathered}
use Rattle.policy_lint.specs.Opposing.{clash}
use Rattle.policy_lint.specs.Versions.{asks_by}

-- the bits of an address of this width that don't count, as a number
abbrev pub bits_past : ℕ → ℕ → ℕ → ℕ
bits_past width bits prefix = prefix % 2 ^ (width - bits)

abbrev pub has_bits_past : Clause → Bool
has_bits_past (Src prefix bits) = not (bits_past 32 bits prefix == 0)
has_bits_past (Dst prefix bits) = not (bits_past 32 bits prefix == 0)
has_bits_past (Src6 prefix bits) = not (bits_past 128 bits prefix == 0)
has_bits_past (Dst6 prefix bits) = not (bits_past 128 bits prefix == 0)
has_bits_past clause = false

abbrev pub is_loose_fit : Match → Bool
is_loose_fit fit = list_any has_bits_past fit.clauses

-- what is odd in clauses by themselves
abbrev pub told_fit : ℕ → Match → List Finding
told_fit line fit = told_if (clash fit) (ClausesClash line) ++ told_if (is_loose_fit fit) (BitsPastLength line)

abbrev pub is_marker : Kind → Bool
is_marker Marker = true
is_marker kind = false

-- a marker's rule that asks for an address of IPv6
abbrev pub marks_ipv6 : Kind → Match → Bool
marks_ipv6 kind fit = is_marker kind && asks_by Ipv6 fit

-- what is odd in a rule by itself
abbrev pub told_rule : Kind → RuleLine → List Finding
told_rule kind r = told_fit r.line r.fit ++ told_if (marks_ipv6 kind r.fit) (MarksIpv6 r.line)

abbrev pub told_rules : Kind → List RuleLine → List Finding
told_rules kind rules = gathered (λ before r. told_rule kind r) [] rules
