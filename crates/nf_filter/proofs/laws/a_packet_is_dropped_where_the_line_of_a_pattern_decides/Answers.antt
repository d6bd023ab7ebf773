use Rattle.nf_filter.proofs.DecidingLines.{drops_where_found, is_first_found}
use Rattle.nf_filter.proofs.laws.a_packet_is_dropped_where_the_line_of_a_pattern_decides.Goals as goal

pub returns-clause-drops : goal.returns-clause-drops
returns-clause-drops c = λ fixed s v. drops_where_found fixed s v

pub returns-clause-line : goal.returns-clause-line
returns-clause-line c = λ fixed s v line is. is_first_found fixed s v line is
