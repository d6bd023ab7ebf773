-- Believed: the packets of a capture among several chains: each goes through the pieces of the chain that takes it,
-- as the packet before left them; a packet that no chain takes passes unchanged.
use Rattle.std.specs.Prelude.{ℕ, List, [], ◌∷◌, map, filter, Bool, false, ◌==◌, slice_index_or, slice_set, Option, Some, None}
use Rattle.std.specs.List.{zip}
use Rattle.std.specs.Option.{option_map_or}
use Rattle.chain_walk.specs.Packets.{Packet}
use Rattle.chain_walk.specs.Step.{Behaviour}
use Rattle.chain_walk.specs.declared.walk.Fate.{Fate}
use Rattle.chain_walk.specs.declared.walk.Fate.TheVariants.{Out}
use Rattle.piece_walk.specs.Pieces.{Piece, Went, long}

-- A packet, and the chain that takes it, counted from 0, if one does.
pub record Classed : Type 0 where
  pub class : Option ℕ
  pub packet : Packet

-- Where a packet ended, and the state in which it left the pieces of each chain.
pub record Served (F : Type 0) : Type 0 where
  pub chains : List (List (Piece F))
  pub fate : Fate

-- the item at a chain's place; nothing if there is no such chain
abbrev pub at_chain : {X : Type 0} → List (List X) → ℕ → List X
at_chain rows chain = slice_index_or rows chain []

-- the packet went through this chain; the others never saw it
abbrev pub went_in : {F : Type 0} → List (List (Piece F)) → ℕ → Went F → Served F
went_in chains chain went = record { chains = slice_set chains chain went.pieces; fate = went.fate }

-- a packet that no chain takes passes with its own frame
abbrev pub served : {F : Type 0} → Behaviour F → List (List (Piece F)) → Option ℕ → Packet → Served F
served b chains None p = record { chains = chains; fate = Out p.frame }
served b chains (Some chain) p = went_in chains chain (long b p.time 1 (at_chain chains chain) p.frame)

-- where each packet ends, in order
unfoldable pub fates_among : {F : Type 0} → Behaviour F → List (List (Piece F)) → List Classed → List Fate
fates_among b chains [] = []
fates_among b chains (x ∷ xs) = (served b chains x.class x.packet).fate ∷ fates_among b (served b chains x.class x.packet).chains xs

-- the pieces of each chain in the state in which the last packet left them
unfoldable pub chains_after : {F : Type 0} → Behaviour F → List (List (Piece F)) → List Classed → List (List (Piece F))
chains_after b chains [] = chains
chains_after b chains (x ∷ xs) = chains_after b (served b chains x.class x.packet).chains xs

-- whether this chain takes the packet
abbrev pub is_of : ℕ → Classed → Bool
is_of chain x = option_map_or (λ class. class == chain) x.class false

-- the packets of a chain, in their order
abbrev pub packets_in : ℕ → List Classed → List Packet
packets_in chain xs = map (λ x. x.packet) (filter (is_of chain) xs)

-- where they ended
abbrev pub fates_in : ℕ → List Classed → List Fate → List Fate
fates_in chain xs fates = map (λ y. y.1) (filter (λ y. is_of chain y.0) (zip xs fates))
