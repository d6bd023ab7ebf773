-- Believed: the ways of the packets of a capture through the chains of a policy.
use Rattle.std.specs.Prelude.{List}
use Rattle.capture_bytes.specs.declared.packet.PcapRecord.{PcapRecord}
use Rattle.capture_bytes.specs.declared.packet.Unit.{Unit as TimeUnit}
use Rattle.policy_chains.specs.Fates.{all_classed}
use Rattle.policy_chains.specs.NamedFunctions.{named_behaviour, named_decides}
use Rattle.policy_chains.specs.Services.{Chains}
use Rattle.traced_walk.specs.Ways.{Way, ways}

-- the ways of the packets of a capture through these chains, each as the packet before left them
abbrev pub ways_of : Chains → TimeUnit → List PcapRecord → List Way
ways_of chains unit records = ways named_behaviour named_decides chains.pieces (all_classed chains.declared unit records)
