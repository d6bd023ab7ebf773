-- For proofs: the lines that a finding speaks of.
use Rattle.std.specs.Prelude.{ℕ, Option, Some, None}
use Rattle.policy_lint.specs.declared.finding.Finding.{Finding}
use Rattle.policy_lint.specs.declared.finding.Finding.TheVariants.{ChainTaken, RuleCovered, NeverReached, LimiterBehind, DeniesIpv4Alone, DeniesIpv6Alone, PublicInside, SharedPorts, ClausesClash, BitsPastLength, MarksIpv6, QuotedPattern, CommaPattern, CutPattern, GlobPattern, RegexPattern, DropsNone, DropsEach, SmallBurst, MatchExcludes, VipExcluded, SourceRewritten, HiddenInTunnel, RedactedBefore, LimiterApart}

abbrev pub line_of : Finding → ℕ
line_of (ChainTaken line by) = line
line_of (RuleCovered line by) = line
line_of (NeverReached line by) = line
line_of (LimiterBehind line by) = line
line_of (DeniesIpv4Alone line) = line
line_of (DeniesIpv6Alone line) = line
line_of (PublicInside line inside) = line
line_of (SharedPorts line by) = line
line_of (ClausesClash line) = line
line_of (BitsPastLength line) = line
line_of (MarksIpv6 line) = line
line_of (QuotedPattern line) = line
line_of (CommaPattern line) = line
line_of (CutPattern line) = line
line_of (GlobPattern line) = line
line_of (RegexPattern line) = line
line_of (DropsNone line) = line
line_of (DropsEach line) = line
line_of (SmallBurst line) = line
line_of (MatchExcludes line by) = line
line_of (VipExcluded line by) = line
line_of (SourceRewritten line by) = line
line_of (HiddenInTunnel line by) = line
line_of (RedactedBefore line by) = line
line_of (LimiterApart line by) = line

-- the line that makes it so, if there is one
abbrev pub other_of : Finding → Option ℕ
other_of (ChainTaken line by) = Some by
other_of (RuleCovered line by) = Some by
other_of (NeverReached line by) = Some by
other_of (LimiterBehind line by) = Some by
other_of (DeniesIpv4Alone line) = None
other_of (DeniesIpv6Alone line) = None
other_of (PublicInside line inside) = Some inside
other_of (SharedPorts line by) = Some by
other_of (ClausesClash line) = None
other_of (BitsPastLength line) = None
other_of (MarksIpv6 line) = None
other_of (QuotedPattern line) = None
other_of (CommaPattern line) = None
other_of (CutPattern line) = None
other_of (GlobPattern line) = None
other_of (RegexPattern line) = None
other_of (DropsNone line) = None
other_of (DropsEach line) = None
other_of (SmallBurst line) = None
other_of (MatchExcludes line by) = Some by
other_of (VipExcluded line by) = Some by
other_of (SourceRewritten line by) = Some by
other_of (HiddenInTunnel line by) = Some by
other_of (RedactedBefore line by) = Some by
other_of (LimiterApart line by) = Some by
