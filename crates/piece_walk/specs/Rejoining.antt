-- For proofs: packets that go piece by piece; the fates of those that passed a piece are put back among the others.
use Rattle.std.specs.Prelude.{ℕ, ◌+◌, List, [], ◌∷◌}
use Rattle.packet_fields.specs.Checksums.{sealed}
use Rattle.chain_walk.specs.Packets.{Packet, functions_after}
use Rattle.chain_walk.specs.Step.{Behaviour}
use Rattle.chain_walk.specs.declared.walk.Fate.{Fate}
use Rattle.chain_walk.specs.declared.walk.Fate.TheVariants.{Out, Gone}
use Rattle.piece_walk.specs.Pieces.{Piece, Graph, Whole}

-- a piece in the state in which the last packet left it
abbrev pub piece_after : {F : Type 0} → Behaviour F → Piece F → List Packet → Piece F
piece_after b (Graph stages functions) ps = Graph stages (functions_after b functions ps)
piece_after b (Whole rewritten) ps = Whole rewritten

-- a fate whose frame is sealed against the frame that entered
abbrev pub sealed_by : List ℕ → Fate → Fate
sealed_by before (Out frame) = Out (sealed before frame)
sealed_by before (Gone position) = Gone position

-- the same for packets in a row
unfoldable pub sealed_fates : List Packet → List Fate → List Fate
sealed_fates [] fates = []
sealed_fates (p ∷ ps) [] = []
sealed_fates (p ∷ ps) (fate ∷ fates) = sealed_by p.frame fate ∷ sealed_fates ps fates

-- after this number of functions a position counts these too
abbrev pub moved : ℕ → Fate → Fate
moved before (Out frame) = Out frame
moved before (Gone position) = Gone (before + position)

-- the fates of all packets of a piece: each that passed it ends as the later pieces say, in order
unfoldable pub put_back : List Fate → List Fate → List Fate
put_back [] later = []
put_back (Gone position ∷ fates) later = Gone position ∷ put_back fates later
put_back (Out frame ∷ fates) [] = []
put_back (Out frame ∷ fates) (fate ∷ later) = fate ∷ put_back fates later

-- the packets that go on, if each came as far as its fate says, with the frames that they have by then
unfoldable pub still_going : List Packet → List Fate → List Packet
still_going [] fates = []
still_going (p ∷ ps) [] = []
still_going (p ∷ ps) (Out frame ∷ fates) = record p { frame = frame } ∷ still_going ps fates
still_going (p ∷ ps) (Gone position ∷ fates) = still_going ps fates
