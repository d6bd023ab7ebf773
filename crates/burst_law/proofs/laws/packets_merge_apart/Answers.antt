use Rattle.burst_law.proofs.Merging.{as_many_arrivals, as_many_packets, merged_each}
use Rattle.burst_law.proofs.laws.packets_merge_apart.Goals as goal

pub returns : goal.returns
returns g c = record { arrivals = as_many_arrivals; count = as_many_packets; each = merged_each }
