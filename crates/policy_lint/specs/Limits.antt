-- For proofs: limiters that drop each packet of the usual length.
use Rattle.std.specs.Prelude.{ℕ, List, [], ◌∷◌, Bool, true, false, nat_lt, if◌then◌else◌, Option, Some, None, codes}
use Rattle.std.specs.Option.{option_map_or}
use Rattle.action_profile.specs.declared.kind.Kind.{Kind}
use Rattle.action_profile.specs.declared.kind.Kind.TheVariants.{Limiter}
use Rattle.policy_text.specs.Values.{number_of}
use Rattle.policy_text.specs.declared.policy.FunctionDecl.{FunctionDecl}
use Rattle.policy_lint.specs.declared.finding.Finding.{Finding}
use Rattle.policy_lint.specs.declared.finding.Finding.TheVariants.{SmallBurst}
use Rattle.policy_lint.specs.Behind.{is_limiter}
use Rattle.policy_lint.specs.Gathering.{told_if}
use Rattle.policy_lint.specs.Nats.{value_of}

-- the line of a limiter's burst, and the burst in bytes
abbrev pub burst_of : FunctionDecl → Option (ℕ × ℕ)
burst_of decl = if is_limiter decl.kind then value_of (number_of 20 4294967295) (codes "burst") decl else None

-- it is less than the 1,500 bytes that a frame of Ethernet carries (IEEE 802.3)
abbrev pub told_burst : ℕ × ℕ → List Finding
told_burst burst = told_if (nat_lt burst.1 1500) (SmallBurst burst.0)

-- what is odd in a limiter by itself
abbrev pub told_limiter : FunctionDecl → List Finding
told_limiter decl = option_map_or told_burst (burst_of decl) []
