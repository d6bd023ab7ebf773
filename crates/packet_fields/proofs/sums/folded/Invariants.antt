use Rattle.std.proofs.Common.{◌≡◌}
use Rattle.packet_fields.specs.Checksums.{folded}
use Rattle.packet_fields.proofs.sums.folded.Given as goal

abbrev pub invariant-carries : goal.invariant-carries
invariant-carries l = folded l.rest ≡ folded l.sum

abbrev pub decreases-carries : goal.decreases-carries
decreases-carries l = l.rest
