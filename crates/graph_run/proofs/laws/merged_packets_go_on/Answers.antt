use Rattle.graph_run.proofs.Behind.{behind, each_from, same_count}
use Rattle.graph_run.proofs.laws.merged_packets_go_on.Goals as goal

pub returns-clause-from : goal.returns-clause-from
returns-clause-from c = λ chain whole base high touches arrivals all is fits. record { fits = fits; behind = is; count = same_count chain whole high touches arrivals all; each = each_from chain whole high touches arrivals all }

pub returns-clause-end : goal.returns-clause-end
returns-clause-end c = λ chain whole base low high touches arrivals all from goes le. (behind chain whole base low high touches arrivals c.last_writer_is_greatest.ensures.unwritten c.merged_is_written_last.ensures.values all from goes le).end

pub returns-clause-leaves : goal.returns-clause-leaves
returns-clause-leaves c = λ chain whole base low high touches arrivals all from goes le. (behind chain whole base low high touches arrivals c.last_writer_is_greatest.ensures.unwritten c.merged_is_written_last.ensures.values all from goes le).leaves
