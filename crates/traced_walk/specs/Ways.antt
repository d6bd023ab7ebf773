-- Believed: the way of each packet of a capture through the chain that takes it.
use Rattle.std.specs.Prelude.{ℕ, List, [], ◌∷◌, Option, Some, None}
use Rattle.chain_walk.specs.Step.{Behaviour}
use Rattle.chain_walk.specs.declared.walk.Fate.{Fate}
use Rattle.chain_walk.specs.declared.walk.Fate.TheVariants.{Out}
use Rattle.packet_function.specs.Deciding.{Deciding}
use Rattle.piece_walk.specs.Pieces.{Piece}
use Rattle.service_walk.specs.Service.{Classed, at_chain, served}
use Rattle.traced_walk.specs.Traced.{Act, LongTraced, long_traced}

-- The chain that takes a packet, counted from 0, if one does; where the packet ended; and what the functions did that
-- it reached, in chain order.
pub record Way : Type 0 where
  pub class : Option ℕ
  pub fate : Fate
  pub acts : List Act

-- the way through this chain
abbrev pub way_in : {F : Type 0} → ℕ → LongTraced F → Way
way_in chain traced = record { class = Some chain; fate = traced.fate; acts = traced.acts }

-- the way of a packet by its class; one that no chain takes passes unchanged
abbrev pub way_of : {F : Type 0} → Behaviour F → Deciding F → List (List (Piece F)) → Option ℕ → Classed → Way
way_of b d chains None x = record { class = None; fate = Out x.packet.frame; acts = [] }
way_of b d chains (Some chain) x = way_in chain (long_traced b d x.packet.time 1 (at_chain chains chain) x.packet.frame)

-- the ways of packets in a row, each through the chains as the packet before left them
unfoldable pub ways : {F : Type 0} → Behaviour F → Deciding F → List (List (Piece F)) → List Classed → List Way
ways b d chains [] = []
ways b d chains (x ∷ xs) = way_of b d chains x.class x ∷ ways b d (served b chains x.class x.packet).chains xs
