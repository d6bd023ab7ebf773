-- Believed: the number of copies that the graphs of a chain's pieces make of the packets that enter them.
use Rattle.std.specs.Prelude.{ℕ, ◌+◌, List, [], ◌∷◌}
use Rattle.packet_fields.specs.declared.field.Field.{Field}
use Rattle.chain_walk.specs.Packets.{Packet, fates}
use Rattle.chain_walk.specs.Step.{Behaviour}
use Rattle.piece_walk.specs.Pieces.{Piece, Graph, Whole}
use Rattle.piece_walk.specs.PiecePackets.{handed_on}
use Rattle.graph_run.specs.Counting.{copies_made}

-- the copies of a field that a piece makes of the packets that enter it; a function that rewrites frames whole makes none
abbrev pub copies_by : {F : Type 0} → Behaviour F → Piece F → List Packet → Field → ℕ
copies_by b (Graph stages functions) packets f = copies_made stages packets (fates b functions packets) f
copies_by b (Whole rewritten) packets f = 0

-- the copies that all pieces make: what one passes on enters the next
unfoldable pub copies_through : {F : Type 0} → Behaviour F → List (Piece F) → List Packet → Field → ℕ
copies_through b [] packets f = 0
copies_through b (piece ∷ later) packets f = copies_by b piece packets f + copies_through b later (handed_on b piece packets) f
