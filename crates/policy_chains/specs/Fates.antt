-- Believed: the packets of a capture, each with the chain that takes it, and where they end.
use Rattle.std.specs.Prelude.{List, map}
use Rattle.capture_bytes.specs.Packets.{time_of}
use Rattle.capture_bytes.specs.declared.packet.Unit.{Unit as TimeUnit}
use Rattle.capture_bytes.specs.declared.packet.PcapRecord.{PcapRecord}
use Rattle.chain_walk.specs.declared.walk.Fate.{Fate}
use Rattle.service_walk.specs.Service.{Classed, fates_among, chains_after}
use Rattle.policy_text.specs.declared.policy.ChainPolicy.{ChainPolicy}
use Rattle.classifier.specs.Classes.{class_of}
use Rattle.policy_chains.specs.NamedFunctions.{named_behaviour}
use Rattle.policy_chains.specs.Services.{Chains}

-- the packet of a record, and the chain that takes it, by the frame as it was read
abbrev pub classed : List ChainPolicy → TimeUnit → PcapRecord → Classed
classed chains unit r = record { class = class_of (map (λ c. c.fit) chains) r.frame; packet = record { time = time_of unit r; frame = r.frame } }

-- the same for records, in their order
abbrev pub all_classed : List ChainPolicy → TimeUnit → List PcapRecord → List Classed
all_classed chains unit records = map (classed chains unit) records

-- where the packets of a capture end, each going through its chain in the state in which the packet before left it
unfoldable pub fates_of : Chains → TimeUnit → List PcapRecord → List Fate
fates_of chains unit records = fates_among named_behaviour chains.pieces (all_classed chains.declared unit records)

-- the chains in the state in which the last of these packets left them
unfoldable pub chains_behind : Chains → TimeUnit → List PcapRecord → Chains
chains_behind chains unit records = record chains { pieces = chains_after named_behaviour chains.pieces (all_classed chains.declared unit records) }
