use Rattle.nf_observe.specs.Counting.{counts_of}
use Rattle.nf_observe.specs.Flows.{with_packet}
use Rattle.nf_observe.proofs.Counting.{counts_packets}
use Rattle.nf_observe.proofs.laws.flows_count_their_packets.Goals as goal

pub returns-clause-counts : goal.returns-clause-counts
returns-clause-counts c = λ packets flow. counts_packets c.noted_is_found.ensures.found packets flow

pub returns-clause-order : goal.returns-clause-order
returns-clause-order c = λ flows flow bytes. c.noted_is_found.ensures.order flows flow (with_packet (counts_of flows flow) bytes)
