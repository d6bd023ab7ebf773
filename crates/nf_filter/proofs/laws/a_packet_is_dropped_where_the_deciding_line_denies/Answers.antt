use Rattle.nf_filter.proofs.DecidingLines.{rule_line}
use Rattle.nf_filter.proofs.laws.a_packet_is_dropped_where_the_deciding_line_denies.Goals as goal

pub returns-clause-rule : goal.returns-clause-rule
returns-clause-rule c = λ fixed f v rule first. rule_line fixed f v rule first
