-- Believed: all the packets of a capture, each passing the pieces of a chain as the one before left them.
use Rattle.std.specs.Prelude.{ℕ, List, [], ◌∷◌, map}
use Rattle.packet_fields.specs.Checksums.{sealed}
use Rattle.chain_walk.specs.Packets.{Packet, fates}
use Rattle.chain_walk.specs.Step.{Behaviour}
use Rattle.chain_walk.specs.declared.walk.Fate.{Fate}
use Rattle.chain_walk.specs.declared.walk.Fate.TheVariants.{Out, Gone}
use Rattle.piece_walk.specs.Pieces.{Piece, Graph, Whole, long}

-- where each packet ends, in order
unfoldable pub long_fates : {F : Type 0} → Behaviour F → List (Piece F) → List Packet → List Fate
long_fates b pieces [] = []
long_fates b pieces (p ∷ ps) = (long b p.time 1 pieces p.frame).fate ∷ long_fates b (long b p.time 1 pieces p.frame).pieces ps

-- the pieces in the state in which the last packet left them
unfoldable pub pieces_after : {F : Type 0} → Behaviour F → List (Piece F) → List Packet → List (Piece F)
pieces_after b pieces [] = pieces
pieces_after b pieces (p ∷ ps) = pieces_after b (long b p.time 1 pieces p.frame).pieces ps

-- the packets that passed a piece's functions, each with the frame that they left, sealed
unfoldable pub passed : List Packet → List Fate → List Packet
passed [] fates = []
passed (p ∷ ps) [] = []
passed (p ∷ ps) (Out frame ∷ fates) = record p { frame = sealed p.frame frame } ∷ passed ps fates
passed (p ∷ ps) (Gone position ∷ fates) = passed ps fates

-- a packet with its frame rewritten
abbrev pub rewritten_by : (List ℕ → List ℕ) → Packet → Packet
rewritten_by rewritten p = record p { frame = rewritten p.frame }

-- of the packets that enter this piece, those that enter the one after it
abbrev pub handed_on : {F : Type 0} → Behaviour F → Piece F → List Packet → List Packet
handed_on b (Graph stages functions) ps = passed ps (fates b functions ps)
handed_on b (Whole rewritten) ps = map (rewritten_by rewritten) ps
