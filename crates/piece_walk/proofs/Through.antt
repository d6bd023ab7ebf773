-- Packets may go through some pieces before the first of them goes through those after.
use Rattle.std.proofs.Common.{◌≡◌, ◌∙◌, ◌+◌, ℕ, List, [], ◌∷◌, ◌++◌, length, map, ap, refl, sym, arith}
use Rattle.std.specs.Prelude.{sum_by}
use Rattle.std.proofs.lemmas.List.Sums.{sum_by-cons}
use Rattle.packet_fields.specs.Checksums.{sealed}
use Rattle.chain_walk.specs.Step.{Behaviour}
use Rattle.chain_walk.specs.Walk.{walk}
use Rattle.chain_walk.specs.Packets.{Packet, fates}
use Rattle.chain_walk.specs.declared.walk.Fate.{Fate}
use Rattle.chain_walk.specs.declared.walk.Fate.TheVariants.{Out, Gone}
use Rattle.piece_walk.specs.Pieces.{Piece, Graph, Whole, Went, long, then_went, went_on, count_of}
use Rattle.piece_walk.specs.PiecePackets.{long_fates, pieces_after, passed, rewritten_by, handed_on}
use Rattle.piece_walk.specs.Rejoining.{moved, put_back, sealed_fates, still_going}
use Rattle.piece_walk.proofs.Keeping.{way_keeps_count}
use Rattle.piece_walk.proofs.Moving.{long_behind}
use Rattle.piece_walk.proofs.OnePiece.{no_piece_fates, one_piece_fates, one_whole_fates}

-- the state of the pieces in front, and the packet after them
abbrev goes_on : {F : Type 0} → List (Piece F) → List (Piece F) → (List ℕ → Went F) → Fate → Went F
goes_on front later on (Out frame) = record { pieces = front ++ (on frame).pieces; fate = (on frame).fate }
goes_on front later on (Gone position) = record { pieces = front ++ later; fate = Gone position }

module _ {F : Type 0} (b : Behaviour F) where
  one_more : (piece : Piece F) (front later : List (Piece F)) (on : List ℕ → Went F) (fate : Fate) → ◌≡◌ {A = Went F} (then_went piece (goes_on front later on fate)) (goes_on (piece ∷ front) later on fate)
  one_more piece front later on (Out frame) = refl
  one_more piece front later on (Gone position) = refl

  through_by : (piece : Piece F) (rest later : List (Piece F)) (whole first on : List ℕ → Went F) (fate : Fate) → ((left : List ℕ) → whole left ≡ goes_on (first left).pieces later on (first left).fate) →
      ◌≡◌ {A = Went F} (went_on piece (rest ++ later) whole fate) (goes_on (went_on piece rest first fate).pieces later on (went_on piece rest first fate).fate)
  through_by piece rest later whole first on (Out left) h = ap (then_went piece) (h left) ∙ one_more piece (first left).pieces later on (first left).fate
  through_by piece rest later whole first on (Gone position) h = refl

  pub way_through : (time position : ℕ) (pieces later : List (Piece F)) (frame : List ℕ) →
      long b time position (pieces ++ later) frame ≡ goes_on (long b time position pieces frame).pieces later (long b time (position + sum_by count_of pieces) later) (long b time position pieces frame).fate
  unfolding long
  way_through time position [] later frame = let same : position ≡ position + 0 = omega arith in ap (λ k. long b time k later frame) same
  way_through time position (Graph stages functions ∷ rest) later frame =
      let same : position + length functions + sum_by count_of rest ≡ position + sum_by count_of (Graph stages functions ∷ rest) = omega (arith, sum_by-cons count_of (Graph stages functions) rest) in
      through_by (Graph stages (walk b time position functions frame).functions) rest later (λ left. long b time (position + length functions) (rest ++ later) (sealed frame left))
      (λ left. long b time (position + length functions) rest (sealed frame left)) (long b time (position + sum_by count_of (Graph stages functions ∷ rest)) later) (walk b time position functions frame).fate
      (λ left. way_through time (position + length functions) rest later (sealed frame left)
      ∙ ap (λ k. goes_on (long b time (position + length functions) rest (sealed frame left)).pieces later (long b time k later) (long b time (position + length functions) rest (sealed frame left)).fate) same)
  way_through time position (Whole rewritten ∷ rest) later frame =
      let same : position + 1 + sum_by count_of rest ≡ position + sum_by count_of (Whole rewritten ∷ rest) = omega (arith, sum_by-cons count_of (Whole rewritten) rest) in
      let front = long b time (position + 1) rest (rewritten frame) in
      ap (then_went (Whole rewritten)) (way_through time (position + 1) rest later (rewritten frame) ∙ ap (λ k. goes_on front.pieces later (long b time k later) front.fate) same)
      ∙ one_more (Whole rewritten) front.pieces later (long b time (position + sum_by count_of (Whole rewritten ∷ rest)) later) front.fate

  -- the result for the packets through these pieces and the later ones
  abbrev FatesThrough : List (Piece F) → List (Piece F) → List Packet → Type 0
  FatesThrough pieces later ps = long_fates b (pieces ++ later) ps ≡ put_back (long_fates b pieces ps) (map (moved (sum_by count_of pieces)) (long_fates b later (still_going ps (long_fates b pieces ps))))

  fates_by : (n : ℕ) (p : Packet) (ps : List Packet) (front later : List (Piece F)) (fate : Fate) → sum_by count_of front ≡ n → ((others : List (Piece F)) → FatesThrough front others ps) →
      (goes_on front later (long b p.time (1 + n) later) fate).fate ∷ long_fates b (goes_on front later (long b p.time (1 + n) later) fate).pieces ps
      ≡ put_back (fate ∷ long_fates b front ps) (map (moved n) (long_fates b later (still_going (p ∷ ps) (fate ∷ long_fates b front ps))))
  unfolding long_fates put_back still_going
  fates_by n p ps front later (Out frame) many rest =
      ap (λ (w : Went F). w.fate ∷ long_fates b (front ++ w.pieces) ps) (long_behind b p.time n later frame)
      ∙ ap (λ l. moved n (long b p.time 1 later frame).fate ∷ l)
      (rest (long b p.time 1 later frame).pieces
      ∙ ap (λ k. put_back (long_fates b front ps) (map (moved k) (long_fates b (long b p.time 1 later frame).pieces (still_going ps (long_fates b front ps))))) many)
  fates_by n p ps front later (Gone position) many rest =
      ap (λ l. Gone position ∷ l) (rest later ∙ ap (λ k. put_back (long_fates b front ps) (map (moved k) (long_fates b later (still_going ps (long_fates b front ps))))) many)

  pub fates_through : (pieces later : List (Piece F)) (ps : List Packet) → FatesThrough pieces later ps
  unfolding long_fates put_back still_going
  fates_through pieces later [] = refl
  fates_through pieces later (p ∷ ps) =
      let front = (long b p.time 1 pieces p.frame).pieces in
      ap (λ (w : Went F). w.fate ∷ long_fates b w.pieces ps) (way_through p.time 1 pieces later p.frame)
      ∙ fates_by (sum_by count_of pieces) p ps front later (long b p.time 1 pieces p.frame).fate (way_keeps_count b p.time 1 pieces p.frame) (λ others. fates_through front others ps)

  -- the state in which the pieces are left
  abbrev PiecesThrough : List (Piece F) → List (Piece F) → List Packet → Type 0
  PiecesThrough pieces later ps = pieces_after b (pieces ++ later) ps ≡ pieces_after b pieces ps ++ pieces_after b later (still_going ps (long_fates b pieces ps))

  pieces_by : (n : ℕ) (p : Packet) (ps : List Packet) (front later : List (Piece F)) (fate : Fate) → ((others : List (Piece F)) → PiecesThrough front others ps) →
      pieces_after b (goes_on front later (long b p.time (1 + n) later) fate).pieces ps ≡ pieces_after b front ps ++ pieces_after b later (still_going (p ∷ ps) (fate ∷ long_fates b front ps))
  unfolding pieces_after still_going
  pieces_by n p ps front later (Out frame) rest =
      ap (λ (w : Went F). pieces_after b (front ++ w.pieces) ps) (long_behind b p.time n later frame) ∙ rest (long b p.time 1 later frame).pieces
  pieces_by n p ps front later (Gone position) rest = rest later

  pub pieces_through : (pieces later : List (Piece F)) (ps : List Packet) → PiecesThrough pieces later ps
  unfolding pieces_after long_fates still_going
  pieces_through pieces later [] = refl
  pieces_through pieces later (p ∷ ps) =
      let front = (long b p.time 1 pieces p.frame).pieces in
      ap (λ (w : Went F). pieces_after b w.pieces ps) (way_through p.time 1 pieces later p.frame)
      ∙ pieces_by (sum_by count_of pieces) p ps front later (long b p.time 1 pieces p.frame).fate (λ others. pieces_through front others ps)

  -- what also goes on after the later pieces
  going_back : (n : ℕ) (ps : List Packet) (first later : List Fate) → still_going ps (put_back first (map (moved n) later)) ≡ still_going (still_going ps first) later
  unfolding still_going put_back
  going_back n [] first later = refl
  going_back n (p ∷ ps) [] later = refl
  going_back n (p ∷ ps) (Gone position ∷ first) later = going_back n ps first later
  going_back n (p ∷ ps) (Out frame ∷ first) [] = refl
  going_back n (p ∷ ps) (Out frame ∷ first) (Out left ∷ later) = ap (λ l. record p { frame = left } ∷ l) (going_back n ps first later)
  going_back n (p ∷ ps) (Out frame ∷ first) (Gone position ∷ later) = going_back n ps first later

  pub going_through : (pieces later : List (Piece F)) (ps : List Packet) →
      still_going ps (long_fates b (pieces ++ later) ps) ≡ still_going (still_going ps (long_fates b pieces ps)) (long_fates b later (still_going ps (long_fates b pieces ps)))
  going_through pieces later ps =
      ap (still_going ps) (fates_through pieces later ps)
      ∙ going_back (sum_by count_of pieces) ps (long_fates b pieces ps) (long_fates b later (still_going ps (long_fates b pieces ps)))

  all_go : (ps : List Packet) → still_going ps (map (λ p. Out p.frame) ps) ≡ ps
  unfolding still_going
  all_go [] = refl
  all_go (p ∷ ps) = ap (λ l. p ∷ l) (all_go ps)

  pub no_piece_goes : (ps : List Packet) → still_going ps (long_fates b [] ps) ≡ ps
  no_piece_goes ps = ap (still_going ps) (no_piece_fates b ps) ∙ all_go ps

  passed_go : (ps : List Packet) (ended : List Fate) → passed ps ended ≡ still_going ps (sealed_fates ps ended)
  unfolding passed still_going sealed_fates
  passed_go [] ended = refl
  passed_go (p ∷ ps) [] = refl
  passed_go (p ∷ ps) (Out frame ∷ ended) = ap (λ l. record p { frame = sealed p.frame frame } ∷ l) (passed_go ps ended)
  passed_go (p ∷ ps) (Gone position ∷ ended) = passed_go ps ended

  rewritten_go : (rewritten : List ℕ → List ℕ) (ps : List Packet) → map (rewritten_by rewritten) ps ≡ still_going ps (map (λ p. Out (rewritten p.frame)) ps)
  unfolding still_going
  rewritten_go rewritten [] = refl
  rewritten_go rewritten (p ∷ ps) = ap (λ l. rewritten_by rewritten p ∷ l) (rewritten_go rewritten ps)

  -- what a piece passes on is what goes out of a chain of this piece alone
  pub handed_on_goes : (piece : Piece F) (ps : List Packet) → handed_on b piece ps ≡ still_going ps (long_fates b (piece ∷ []) ps)
  handed_on_goes (Graph stages functions) ps = passed_go ps (fates b functions ps) ∙ ap (still_going ps) (sym (one_piece_fates b stages functions ps))
  handed_on_goes (Whole rewritten) ps = rewritten_go rewritten ps ∙ ap (still_going ps) (sym (one_whole_fates b rewritten ps))
