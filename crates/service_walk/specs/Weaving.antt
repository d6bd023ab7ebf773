-- For proofs: the fates of packets, put together again from those of each chain.
use Rattle.std.specs.Prelude.{ℕ, suc, List, [], ◌∷◌, drop, slice_get, slice_set, Option, Some, None}
use Rattle.chain_walk.specs.Step.{Behaviour}
use Rattle.chain_walk.specs.declared.walk.Fate.{Fate}
use Rattle.chain_walk.specs.declared.walk.Fate.TheVariants.{Out}
use Rattle.piece_walk.specs.Pieces.{Piece}
use Rattle.piece_walk.specs.PiecePackets.{long_fates, pieces_after}
use Rattle.service_walk.specs.Service.{Classed, at_chain, packets_in}

-- the fates of each chain's packets, as if there were no other chain, if the first chain has this number
unfoldable pub each_fates : {F : Type 0} → Behaviour F → List Classed → ℕ → List (List (Piece F)) → List (List Fate)
each_fates b xs chain [] = []
each_fates b xs chain (pieces ∷ later) = long_fates b pieces (packets_in chain xs) ∷ each_fates b xs (suc chain) later

-- the pieces of each chain after its own packets
unfoldable pub each_after : {F : Type 0} → Behaviour F → List Classed → ℕ → List (List (Piece F)) → List (List (Piece F))
each_after b xs chain [] = []
each_after b xs chain (pieces ∷ later) = pieces_after b pieces (packets_in chain xs) ∷ each_after b xs (suc chain) later

-- the next fate of the chain that takes a packet
abbrev pub next_fate : List (List Fate) → Option ℕ → Option Fate
next_fate rows None = None
next_fate rows (Some chain) = slice_get (at_chain rows chain) 0

-- the fates of each chain that are left
abbrev pub fates_left : List (List Fate) → Option ℕ → List (List Fate)
fates_left rows None = rows
fates_left rows (Some chain) = slice_set rows chain (drop 1 (at_chain rows chain))

-- each packet's fate, taken off the front of its chain's, none for a packet that no chain takes
unfoldable pub woven : List (Option ℕ) → List (List Fate) → List (Option Fate)
woven [] rows = []
woven (class ∷ classes) rows = next_fate rows class ∷ woven classes (fates_left rows class)

-- a packet without a fate from a chain passes with its own frame
abbrev pub fate_of : Classed → Option Fate → Fate
fate_of x None = Out x.packet.frame
fate_of x (Some fate) = fate

-- the same for packets in a row
unfoldable pub fates_seen : List Classed → List (Option Fate) → List Fate
fates_seen [] fates = []
fates_seen (x ∷ xs) [] = []
fates_seen (x ∷ xs) (fate ∷ fates) = fate_of x fate ∷ fates_seen xs fates
