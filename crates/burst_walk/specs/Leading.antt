-- For proofs: how the chains of a service run the packets of a burst, each its own.
use Rattle.std.specs.Prelude.{◌≡◌, ◌<◌, ◌^◌, ℕ, suc, List, [], ◌∷◌, map, length, Option, Some, None}
use Rattle.capture_bytes.specs.Packets.{IsShort}
use Rattle.capture_bytes.specs.declared.packet.PcapRecord.{PcapRecord}
use Rattle.capture_bytes.specs.declared.packet.Unit.{Unit as TimeUnit}
use Rattle.packet_fields.specs.declared.field.Field.{Field}
use Rattle.policy_text.specs.declared.clause.Match.{Match}
use Rattle.chain_walk.specs.declared.walk.Fate.{Fate}
use Rattle.chain_walk.specs.declared.walk.Fate.TheVariants.{Out, Gone}
use Rattle.service_walk.specs.Service.{Classed, packets_in}
use Rattle.packet_version.specs.Tallies.{count_of, raised}
use Rattle.classifier.specs.Classes.{class_of}
use Rattle.classifier.specs.declared.burst.Item.{Item}
use Rattle.chain_service.specs.SegmentRunProofs.{packet_of}
use Rattle.piece_walk.specs.PiecePackets.{pieces_after}
use Rattle.chain_service.specs.SegmentRun.{copies_through}
use Rattle.policy_chains.specs.NamedFunctions.{named_behaviour}
use Rattle.chain_service.specs.Opening.{pieces_in}
use Rattle.chain_service.specs.declared.service.ServiceChain.{ServiceChain}

-- the records of the packets of a burst
abbrev pub records_of : List Item → List PcapRecord
records_of items = map (λ i. i.packet) items

-- the packet of an item, with the chain that takes it
abbrev pub classed_item : TimeUnit → Item → Classed
classed_item unit item = record { class = item.class; packet = packet_of unit item }

abbrev pub classed_items : TimeUnit → List Item → List Classed
classed_items unit items = map (classed_item unit) items

-- A packet that is classified by these clauses, from a record of an accepted length.
pub record IsClassed (fits : List Match) (item : Item) : Type 0 where
  pub class : item.class ≡ class_of fits item.packet.frame
  pub short : IsShort item.packet

-- a frame that can be written as a record of any format: it is far shorter than the format's numbers allow
abbrev pub IsWritable : Fate → Type 0
IsWritable (Out frame) = length frame < 2 ^ 22
IsWritable (Gone position) = Unit {0}

-- The chain with this number ran its packets among these, and remains the same chain.
pub record LeadsChain (packets : List Classed) (number : ℕ) (before after : ServiceChain) : Type 0 where
  pub same_chain : after.declared ≡ before.declared
  pub same_names : after.names ≡ before.names
  pub pieces : pieces_in after ≡ pieces_after named_behaviour (pieces_in before) (packets_in number packets)
  pub copied : (f : Field) → count_of after.copies f ≡ raised (count_of before.copies f) (copies_through named_behaviour (pieces_in before) (packets_in number packets) f)

-- each chain did so, if the first has this number
unfoldable pub LeadsEach : List Classed → ℕ → List ServiceChain → List ServiceChain → Type 0
LeadsEach packets number [] [] = Unit {0}
LeadsEach packets number (before ∷ befores) (after ∷ afters) = LeadsChain packets number before after × LeadsEach packets (suc number) befores afters
LeadsEach packets number befores afters = ⊥

-- where a packet ended that a chain ran to this end, or that no chain took
abbrev pub ended : PcapRecord → Option Fate → Fate
ended r None = Out r.frame
ended r (Some fate) = fate

-- the same for the packets of a burst
unfoldable pub all_ended : List Item → List (Option Fate) → List Fate
all_ended [] fates = []
all_ended (i ∷ items) [] = []
all_ended (i ∷ items) (fate ∷ fates) = ended i.packet fate ∷ all_ended items fates
