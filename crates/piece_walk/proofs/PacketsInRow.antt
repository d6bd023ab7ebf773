-- Packets in a row: the later ones find the state that the first leave.
use Rattle.std.proofs.Common.{◌≡◌, ℕ, suc, List, [], ◌∷◌, ◌++◌, length, map, ap, refl}
use Rattle.chain_walk.specs.Step.{Behaviour}
use Rattle.chain_walk.specs.Walk.{walk}
use Rattle.chain_walk.specs.Packets.{Packet, fates, functions_after}
use Rattle.chain_walk.specs.declared.walk.Fate.{Fate}
use Rattle.chain_walk.specs.declared.walk.Fate.TheVariants.{Out, Gone}
use Rattle.packet_fields.specs.Checksums.{sealed}
use Rattle.piece_walk.specs.Pieces.{Piece, Graph, Whole, long}
use Rattle.piece_walk.specs.PiecePackets.{long_fates, pieces_after, passed, rewritten_by, handed_on}
use Rattle.piece_walk.specs.Rejoining.{piece_after}

module _ {F : Type 0} (b : Behaviour F) where
  pub fates_in_a_row : (pieces : List (Piece F)) (first later : List Packet) → long_fates b pieces (first ++ later) ≡ long_fates b pieces first ++ long_fates b (pieces_after b pieces first) later
  unfolding long_fates pieces_after
  fates_in_a_row pieces [] later = refl
  fates_in_a_row pieces (p ∷ first) later = ap (λ l. (long b p.time 1 pieces p.frame).fate ∷ l) (fates_in_a_row (long b p.time 1 pieces p.frame).pieces first later)

  pub pieces_in_a_row : (pieces : List (Piece F)) (first later : List Packet) → pieces_after b pieces (first ++ later) ≡ pieces_after b (pieces_after b pieces first) later
  unfolding pieces_after
  pieces_in_a_row pieces [] later = refl
  pieces_in_a_row pieces (p ∷ first) later = pieces_in_a_row (long b p.time 1 pieces p.frame).pieces first later

  pub count_of_fates : (pieces : List (Piece F)) (ps : List Packet) → length (long_fates b pieces ps) ≡ length ps
  unfolding long_fates
  count_of_fates pieces [] = refl
  count_of_fates pieces (p ∷ ps) = ap suc (count_of_fates (long b p.time 1 pieces p.frame).pieces ps)

  -- what passes in two groups of packets
  abbrev PassInARow : List F → List Packet → List Packet → Type 0
  PassInARow functions first later = passed (first ++ later) (fates b functions (first ++ later)) ≡ passed first (fates b functions first) ++ passed later (fates b (functions_after b functions first) later)

  passed_by : (p : Packet) (left : List F) (first later : List Packet) (fate : Fate) → PassInARow left first later →
      passed (p ∷ first ++ later) (fate ∷ fates b left (first ++ later)) ≡ passed (p ∷ first) (fate ∷ fates b left first) ++ passed later (fates b (functions_after b left first) later)
  unfolding passed
  passed_by p left first later (Out frame) rest = ap (λ l. record p { frame = sealed p.frame frame } ∷ l) rest
  passed_by p left first later (Gone position) rest = rest

  passed_in_a_row : (functions : List F) (first later : List Packet) → PassInARow functions first later
  unfolding passed fates functions_after
  passed_in_a_row functions [] later = refl
  passed_in_a_row functions (p ∷ first) later =
      let left = (walk b p.time 1 functions p.frame).functions in
      passed_by p left first later (walk b p.time 1 functions p.frame).fate (passed_in_a_row left first later)

  rewritten_in_a_row : (rewritten : List ℕ → List ℕ) (first later : List Packet) → map (rewritten_by rewritten) (first ++ later) ≡ map (rewritten_by rewritten) first ++ map (rewritten_by rewritten) later
  rewritten_in_a_row rewritten [] later = refl
  rewritten_in_a_row rewritten (p ∷ first) later = ap (λ l. rewritten_by rewritten p ∷ l) (rewritten_in_a_row rewritten first later)

  -- what a piece passes on in two groups of packets
  pub handed_on_in_a_row : (piece : Piece F) (first later : List Packet) → handed_on b piece (first ++ later) ≡ handed_on b piece first ++ handed_on b (piece_after b piece first) later
  handed_on_in_a_row (Graph stages functions) first later = passed_in_a_row functions first later
  handed_on_in_a_row (Whole rewritten) first later = rewritten_in_a_row rewritten first later
