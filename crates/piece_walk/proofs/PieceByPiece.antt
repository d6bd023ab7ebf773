-- All packets of a burst may go through a piece before the first of them goes through the next.
use Rattle.std.proofs.Common.{◌≡◌, ◌≤◌, ◌∙◌, ◌+◌, ℕ, suc, Bool, true, false, List, [], ◌∷◌, length, map, ap, refl, arith}
use Rattle.std.specs.Prelude.{if◌then◌else◌}
use Rattle.std.proofs.lemmas.List.{length-map}
use Rattle.packet_fields.specs.Checksums.{sealed}
use Rattle.graph_compile.specs.declared.graph.Stage.{Stage}
use Rattle.chain_walk.specs.Step.{Behaviour, is_drop}
use Rattle.chain_walk.specs.Walk.{Walked, walk, applied, frame_after, dropped_at, then_walked}
use Rattle.chain_walk.specs.Packets.{Packet, fates, functions_after}
use Rattle.chain_walk.specs.declared.walk.Fate.{Fate}
use Rattle.chain_walk.specs.declared.walk.Fate.TheVariants.{Out, Gone}
use Rattle.piece_walk.specs.Pieces.{Piece, Graph, Whole, Went, long, went_on}
use Rattle.piece_walk.specs.PiecePackets.{long_fates, pieces_after, passed, rewritten_by, handed_on}
use Rattle.piece_walk.specs.Rejoining.{piece_after, moved, put_back}
use Rattle.piece_walk.proofs.Moving.{long_behind}

module _ {F : Type 0} (b : Behaviour F) where
  as_many_by : (drops : Bool) (position : ℕ) (f : F) (later : List F) (w : Walked F) → length w.functions ≡ length later → length (if drops then dropped_at position f later else then_walked f w).functions ≡ suc (length later)
  as_many_by true position f later w same = refl
  as_many_by false position f later w same = ap suc same

  -- a walk loses no function
  pub as_many_functions : (time position : ℕ) (functions : List F) (frame : List ℕ) → length (walk b time position functions frame).functions ≡ length functions
  unfolding walk
  as_many_functions time position [] frame = refl
  as_many_functions time position (f ∷ later) frame =
      as_many_by (is_drop (applied b time f frame).verdict) position (applied b time f frame).after later (walk b time (position + 1) later (frame_after b time f frame)) (as_many_functions time (position + 1) later (frame_after b time f frame))

  module _ (stages : List Stage) where
    -- the result for the packets after, with these later pieces
    abbrev FatesOf : List F → List (Piece F) → List Packet → Type 0
    FatesOf functions later ps = long_fates b (Graph stages functions ∷ later) ps ≡ put_back (fates b functions ps) (map (moved (length functions)) (long_fates b later (passed ps (fates b functions ps))))

    fates_by : (n : ℕ) (p : Packet) (ps : List Packet) (left : List F) (later : List (Piece F)) (fate : Fate) → length left ≡ n → ((others : List (Piece F)) → FatesOf left others ps) →
        (went_on (Graph stages left) later (λ frame. long b p.time (1 + n) later (sealed p.frame frame)) fate).fate
        ∷ long_fates b (went_on (Graph stages left) later (λ frame. long b p.time (1 + n) later (sealed p.frame frame)) fate).pieces ps
        ≡ put_back (fate ∷ fates b left ps) (map (moved n) (long_fates b later (passed (p ∷ ps) (fate ∷ fates b left ps))))
    unfolding long_fates passed put_back
    fates_by n p ps left later (Out frame) many rest =
        ap (λ (w : Went F). w.fate ∷ long_fates b (Graph stages left ∷ w.pieces) ps) (long_behind b p.time n later (sealed p.frame frame))
        ∙ ap (λ l. moved n (long b p.time 1 later (sealed p.frame frame)).fate ∷ l)
        (rest (long b p.time 1 later (sealed p.frame frame)).pieces
        ∙ ap (λ k. put_back (fates b left ps) (map (moved k) (long_fates b (long b p.time 1 later (sealed p.frame frame)).pieces (passed ps (fates b left ps))))) many)
    fates_by n p ps left later (Gone position) many rest =
        ap (λ l. Gone position ∷ l) (rest later ∙ ap (λ k. put_back (fates b left ps) (map (moved k) (long_fates b later (passed ps (fates b left ps))))) many)

    pub fates_of_graph : (functions : List F) (later : List (Piece F)) (ps : List Packet) → FatesOf functions later ps
    unfolding long_fates long fates passed put_back
    fates_of_graph functions later [] = refl
    fates_of_graph functions later (p ∷ ps) =
        let left = (walk b p.time 1 functions p.frame).functions in
        fates_by (length functions) p ps left later (walk b p.time 1 functions p.frame).fate (as_many_functions p.time 1 functions p.frame) (λ others. fates_of_graph left others ps)

    -- the state in which the pieces are left
    abbrev PiecesOf : List F → List (Piece F) → List Packet → Type 0
    PiecesOf functions later ps = pieces_after b (Graph stages functions ∷ later) ps ≡ Graph stages (functions_after b functions ps) ∷ pieces_after b later (passed ps (fates b functions ps))

    pieces_by : (n : ℕ) (p : Packet) (ps : List Packet) (left : List F) (later : List (Piece F)) (fate : Fate) → ((others : List (Piece F)) → PiecesOf left others ps) →
        pieces_after b (went_on (Graph stages left) later (λ frame. long b p.time (1 + n) later (sealed p.frame frame)) fate).pieces ps
        ≡ Graph stages (functions_after b left ps) ∷ pieces_after b later (passed (p ∷ ps) (fate ∷ fates b left ps))
    unfolding pieces_after passed
    pieces_by n p ps left later (Out frame) rest =
        ap (λ (w : Went F). pieces_after b (Graph stages left ∷ w.pieces) ps) (long_behind b p.time n later (sealed p.frame frame))
        ∙ rest (long b p.time 1 later (sealed p.frame frame)).pieces
    pieces_by n p ps left later (Gone position) rest = rest later

    pub pieces_of_graph : (functions : List F) (later : List (Piece F)) (ps : List Packet) → PiecesOf functions later ps
    unfolding pieces_after long fates passed functions_after
    pieces_of_graph functions later [] = refl
    pieces_of_graph functions later (p ∷ ps) =
        let left = (walk b p.time 1 functions p.frame).functions in
        pieces_by (length functions) p ps left later (walk b p.time 1 functions p.frame).fate (λ others. pieces_of_graph left others ps)

  module _ (rewritten : List ℕ → List ℕ) where
    pub fates_of_whole : (later : List (Piece F)) (ps : List Packet) →
        long_fates b (Whole rewritten ∷ later) ps ≡ map (moved 1) (long_fates b later (map (rewritten_by rewritten) ps))
    unfolding long_fates long
    fates_of_whole later [] = refl
    fates_of_whole later (p ∷ ps) =
        ap (λ (w : Went F). w.fate ∷ long_fates b (Whole rewritten ∷ w.pieces) ps) (long_behind b p.time 1 later (rewritten p.frame))
        ∙ ap (λ l. moved 1 (long b p.time 1 later (rewritten p.frame)).fate ∷ l) (fates_of_whole (long b p.time 1 later (rewritten p.frame)).pieces ps)

    pub pieces_of_whole : (later : List (Piece F)) (ps : List Packet) →
        pieces_after b (Whole rewritten ∷ later) ps ≡ Whole rewritten ∷ pieces_after b later (map (rewritten_by rewritten) ps)
    unfolding pieces_after long
    pieces_of_whole later [] = refl
    pieces_of_whole later (p ∷ ps) =
        ap (λ (w : Went F). pieces_after b (Whole rewritten ∷ w.pieces) ps) (long_behind b p.time 1 later (rewritten p.frame))
        ∙ pieces_of_whole (long b p.time 1 later (rewritten p.frame)).pieces ps

  -- the first piece is left by its packets, and the later ones by those that it passes on
  pub pieces_by_piece : (piece : Piece F) (later : List (Piece F)) (ps : List Packet) →
      pieces_after b (piece ∷ later) ps ≡ piece_after b piece ps ∷ pieces_after b later (handed_on b piece ps)
  pieces_by_piece (Graph stages functions) later ps = pieces_of_graph stages functions later ps
  pieces_by_piece (Whole rewritten) later ps = pieces_of_whole rewritten later ps

  passed_fewer : (ps : List Packet) (ended : List Fate) → length (passed ps ended) ≤ length ps
  unfolding passed
  passed_fewer [] ended = omega arith
  passed_fewer (p ∷ ps) [] = omega arith
  passed_fewer (p ∷ ps) (Out frame ∷ ended) = let rest = passed_fewer ps ended in omega arith
  passed_fewer (p ∷ ps) (Gone position ∷ ended) = let rest = passed_fewer ps ended in omega arith

  -- a piece passes on no more packets than entered it
  pub fewer : (piece : Piece F) (ps : List Packet) → length (handed_on b piece ps) ≤ length ps
  fewer (Graph stages functions) ps = passed_fewer ps (fates b functions ps)
  fewer (Whole rewritten) ps = let same = length-map ps (rewritten_by rewritten) in omega arith
