-- For proofs: the pieces of a chain as they run, and what it means that packets went through them.
use Rattle.std.specs.Prelude.{◌≡◌, ℕ, List, [], ◌∷◌, map, All}
use Rattle.std.specs.List.{sum_by}
use Rattle.chain_walk.specs.Packets.{Packet}
use Rattle.chain_walk.specs.Step.{Behaviour}
use Rattle.chain_walk.specs.Walk.{EndsWithin}
use Rattle.chain_walk.specs.declared.walk.Fate.{Fate}
use Rattle.nf_tunnel.specs.Tunnels.{encapsulated, decapsulated}
use Rattle.piece_walk.specs.Pieces.{Piece, Graph, Whole, count_of}
use Rattle.piece_walk.specs.PiecePackets.{long_fates, pieces_after}
use Rattle.piece_walk.specs.Rejoining.{moved, put_back, still_going}
use Rattle.graph_run.specs.Counting.{RaisesAll}
use Rattle.segment_run.specs.Counting.{copies_through}
use Rattle.segment_run.specs.declared.piece.Piece.{Piece as RunningPiece}
use Rattle.segment_run.specs.declared.piece.Piece.TheVariants as running

-- what contracts see of a piece that runs
abbrev pub piece_of : {F : Type 0} → RunningPiece F → Piece F
piece_of (running.Graph run) = Graph run.graph.stages run.functions
piece_of (running.Encap tunnel) = Whole (encapsulated tunnel)
piece_of (running.Decap tunnel) = Whole (decapsulated tunnel)

abbrev pub pieces_of : {F : Type 0} → List (RunningPiece F) → List (Piece F)
pieces_of pieces = map piece_of pieces

-- the number of their functions
abbrev pub functions_count : {F : Type 0} → List (Piece F) → ℕ
functions_count pieces = sum_by count_of pieces

-- Packets ended as if each went through the pieces, in the state in which the packet before left them; so the pieces
-- were left. A function named as the one that dropped a packet is in the chain. The counts rose by the copies that were
-- made.
pub record GoesThrough {F : Type 0} (b : Behaviour F) (pieces : List (Piece F)) (packets : List Packet) (old new : List ℕ) (after : List (Piece F)) (ended : List Fate) : Type 0 where
  pub fates : ended ≡ long_fates b pieces packets
  pub pieces_left : after ≡ pieces_after b pieces packets
  pub within : All (EndsWithin (functions_count pieces)) ended
  pub counted : RaisesAll (copies_through b pieces packets) old new

-- Packets that had ended so, before this number of functions, or went on: those that did went through one more piece.
pub record GoesOn {F : Type 0} (b : Behaviour F) (piece : Piece F) (packets : List Packet) (before : ℕ) (so_far : List Fate) (old new : List ℕ) (after : Piece F) (ended : List Fate) : Type 0 where
  pub fates : ended ≡ put_back so_far (map (moved before) (long_fates b (piece ∷ []) (still_going packets so_far)))
  pub piece_left : after ∷ [] ≡ pieces_after b (piece ∷ []) (still_going packets so_far)
  pub counted : RaisesAll (copies_through b (piece ∷ []) (still_going packets so_far)) old new
