-- A chain that is one graph walks as chains do, and what goes out is sealed.
use Rattle.std.proofs.Common.{◌≡◌, ◌∙◌, ◌+◌, ℕ, List, [], ◌∷◌, length, map, ap, refl}
use Rattle.packet_fields.specs.Checksums.{sealed}
use Rattle.graph_compile.specs.declared.graph.Stage.{Stage}
use Rattle.chain_walk.specs.Step.{Behaviour}
use Rattle.chain_walk.specs.Walk.{walk}
use Rattle.chain_walk.specs.Packets.{Packet, fates, functions_after}
use Rattle.chain_walk.specs.declared.walk.Fate.{Fate}
use Rattle.chain_walk.specs.declared.walk.Fate.TheVariants.{Out, Gone}
use Rattle.piece_walk.specs.Pieces.{Graph, Whole, Went, long, went_on}
use Rattle.piece_walk.specs.PiecePackets.{long_fates, pieces_after}
use Rattle.piece_walk.specs.Rejoining.{sealed_by, sealed_fates}

module _ {F : Type 0} (b : Behaviour F) where
  pub no_piece : (time position : ℕ) (frame : List ℕ) → ◌≡◌ {A = Went F} (long b time position [] frame) (record { pieces = []; fate = Out frame })
  unfolding long
  no_piece time position frame = refl

  pub no_piece_fates : (ps : List Packet) → long_fates b [] ps ≡ map (λ p. Out p.frame) ps
  unfolding long_fates long
  no_piece_fates [] = refl
  no_piece_fates (p ∷ ps) = ap (λ l. Out p.frame ∷ l) (no_piece_fates ps)

  pub no_piece_after : (ps : List Packet) → pieces_after b [] ps ≡ []
  unfolding pieces_after long
  no_piece_after [] = refl
  no_piece_after (p ∷ ps) = no_piece_after ps

  pub one_whole_fates : (rewritten : List ℕ → List ℕ) (ps : List Packet) → long_fates b (Whole rewritten ∷ []) ps ≡ map (λ p. Out (rewritten p.frame)) ps
  unfolding long_fates long
  one_whole_fates rewritten [] = refl
  one_whole_fates rewritten (p ∷ ps) = ap (λ l. Out (rewritten p.frame) ∷ l) (one_whole_fates rewritten ps)

  module _ (stages : List Stage) where
    one_by : (time position : ℕ) (functions : List F) (frame : List ℕ) (fate : Fate) →
        ◌≡◌ {A = Went F} (went_on (Graph stages functions) [] (λ left. long b time position [] (sealed frame left)) fate) (record { pieces = Graph stages functions ∷ []; fate = sealed_by frame fate })
    unfolding long
    one_by time position functions frame (Out left) = refl
    one_by time position functions frame (Gone at) = refl

    pub one_piece : (time position : ℕ) (functions : List F) (frame : List ℕ) →
        ◌≡◌ {A = Went F} (long b time position (Graph stages functions ∷ []) frame)
        (record { pieces = Graph stages (walk b time position functions frame).functions ∷ []; fate = sealed_by frame (walk b time position functions frame).fate })
    unfolding long
    one_piece time position functions frame =
        one_by time (position + length functions) (walk b time position functions frame).functions frame (walk b time position functions frame).fate

    pub one_piece_fates : (functions : List F) (ps : List Packet) → long_fates b (Graph stages functions ∷ []) ps ≡ sealed_fates ps (fates b functions ps)
    unfolding long_fates fates sealed_fates
    one_piece_fates functions [] = refl
    one_piece_fates functions (p ∷ ps) =
        ap (λ (w : Went F). w.fate ∷ long_fates b w.pieces ps) (one_piece p.time 1 functions p.frame)
        ∙ ap (λ l. sealed_by p.frame (walk b p.time 1 functions p.frame).fate ∷ l) (one_piece_fates (walk b p.time 1 functions p.frame).functions ps)

    pub one_piece_after : (functions : List F) (ps : List Packet) → pieces_after b (Graph stages functions ∷ []) ps ≡ Graph stages (functions_after b functions ps) ∷ []
    unfolding pieces_after functions_after
    one_piece_after functions [] = refl
    one_piece_after functions (p ∷ ps) =
        ap (λ (w : Went F). pieces_after b w.pieces ps) (one_piece p.time 1 functions p.frame)
        ∙ one_piece_after (walk b p.time 1 functions p.frame).functions ps
