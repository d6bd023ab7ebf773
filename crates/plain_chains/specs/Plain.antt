-- For proofs: chains that are ready for packets, and the way of the next packet.
use Rattle.std.specs.Prelude.{◌≡◌, List, map}
use Rattle.capture_bytes.specs.declared.packet.PcapRecord.{PcapRecord}
use Rattle.capture_bytes.specs.declared.packet.Unit.{Unit as TimeUnit}
use Rattle.piece_walk.specs.Pieces.{Piece}
use Rattle.policy_text.specs.Names.{names_at}
use Rattle.policy_chains.specs.Fates.{classed}
use Rattle.policy_chains.specs.NamedFunctions.{named_behaviour, named_decides}
use Rattle.policy_chains.specs.Parts.{parts_of}
use Rattle.policy_chains.specs.Services.{Chains, pieces_at}
use Rattle.policy_chains.specs.declared.named.NamedFunction.{NamedFunction}
use Rattle.service_walk.specs.Service.{Classed, served}
use Rattle.traced_walk.specs.Ways.{Way, way_of}
use Rattle.plain_chains.specs.declared.chain.PlainChain.{PlainChain}

-- the pieces of a chain, in the state in which the last packet left them
abbrev pub pieces_in : PlainChain → List (Piece NamedFunction)
pieces_in chain = parts_of chain.parts

-- the chains and their pieces, in the state in which the last packet left them
abbrev pub chains_of : List PlainChain → Chains
chains_of chains = record {
  declared = map (λ c. c.declared) chains;
  names = map (λ c. names_at c.declared.functions c.order.positions) chains;
  pieces = map pieces_in chains;
}

-- Before its first packet a chain has the pieces of its functions in their order.
pub record IsPlain (chain : PlainChain) : Type 0 where
  pub pieces : pieces_in chain ≡ pieces_at chain.declared.functions chain.order.positions

-- the packet of a record, and the chain that takes it
abbrev pub next_classed : List PlainChain → TimeUnit → PcapRecord → Classed
next_classed chains unit r = classed (chains_of chains).declared unit r

-- the way of the next packet
abbrev pub way_next : List PlainChain → TimeUnit → PcapRecord → Way
way_next chains unit r = way_of named_behaviour named_decides (chains_of chains).pieces (next_classed chains unit r).class (next_classed chains unit r)

-- A packet went its way: the pieces are as it left them, and nothing else changed.
pub record Leads (unit : TimeUnit) (r : PcapRecord) (old new : List PlainChain) : Type 0 where
  pub declared : map (λ c. c.declared) new ≡ map (λ c. c.declared) old
  pub orders : map (λ c. c.order) new ≡ map (λ c. c.order) old
  pub pieces : (chains_of new).pieces ≡ (served named_behaviour (chains_of old).pieces (next_classed old unit r).class (next_classed old unit r).packet).chains
