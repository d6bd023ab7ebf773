-- The copies that packets make in a row, and through some pieces and those after.
use Rattle.std.proofs.Common.{◌≡◌, ◌∙◌, ◌+◌, ℕ, List, [], ◌∷◌, ◌++◌, ap, refl, sym, arith}
use Rattle.std.specs.List.{sum_by, zip}
use Rattle.std.proofs.lemmas.List.Sums.{sum_by-cons}
use Rattle.packet_fields.specs.declared.field.Field.{Field}
use Rattle.graph_compile.specs.declared.graph.Stage.{Stage}
use Rattle.chain_walk.specs.Packets.{Packet, fates, functions_after}
use Rattle.chain_walk.specs.Step.{Behaviour}
use Rattle.chain_walk.specs.Walk.{walk}
use Rattle.chain_walk.specs.declared.walk.Fate.{Fate}
use Rattle.piece_walk.specs.Pieces.{Piece, Graph, Whole}
use Rattle.piece_walk.specs.PiecePackets.{long_fates, pieces_after, handed_on}
use Rattle.piece_walk.specs.Rejoining.{piece_after, still_going}
use Rattle.piece_walk.proofs.OnePiece.{no_piece_after}
use Rattle.piece_walk.proofs.PacketsInRow.{handed_on_in_a_row}
use Rattle.piece_walk.proofs.PieceByPiece.{pieces_by_piece}
use Rattle.piece_walk.proofs.Through.{going_through, handed_on_goes, no_piece_goes}
use Rattle.graph_run.specs.Counting.{copies_made, copies_of}
use Rattle.segment_run.specs.Counting.{copies_by, copies_through}

module _ {F : Type 0} (b : Behaviour F) (f : Field) where
  module _ (stages : List Stage) where
    -- the copies of one packet with its fate
    abbrev one : Packet × Fate → ℕ
    one x = copies_of stages x.0.frame x.1 f

    graph_in_a_row : (functions : List F) (first later : List Packet) →
        copies_made stages (first ++ later) (fates b functions (first ++ later)) f ≡ copies_made stages first (fates b functions first) f + copies_made stages later (fates b (functions_after b functions first) later) f
    unfolding copies_made fates functions_after
    graph_in_a_row functions [] later = omega arith
    graph_in_a_row functions (p ∷ first) later =
        let left = (walk b p.time 1 functions p.frame).functions in
        let here : Packet × Fate = (p, (walk b p.time 1 functions p.frame).fate) in
        let front = zip first (fates b left first) in
        let behind = sum_by one (zip later (fates b (functions_after b left first) later)) in
        let assoc : one here + (sum_by one front + behind) ≡ one here + sum_by one front + behind = omega arith in
        sum_by-cons one here (zip (first ++ later) (fates b left (first ++ later))) ∙ ap (λ n. one here + n) (graph_in_a_row left first later) ∙ assoc ∙ ap (λ n. n + behind) (sym (sum_by-cons one here front))

  by_in_a_row : (piece : Piece F) (first later : List Packet) → copies_by b piece (first ++ later) f ≡ copies_by b piece first f + copies_by b (piece_after b piece first) later f
  by_in_a_row (Graph stages functions) first later = graph_in_a_row stages functions first later
  by_in_a_row (Whole rewritten) first later = refl

  rows_meet : (a a1 a2 c c1 c2 d : ℕ) → a ≡ a1 + a2 → c ≡ c1 + c2 → d ≡ a2 + c2 → a + c ≡ a1 + c1 + d
  rows_meet a a1 a2 c c1 c2 d x y z = omega arith

  none_meet : (n : ℕ) → n ≡ 0 → 0 ≡ 0 + n
  none_meet n is = omega arith

  none_before : (m n : ℕ) → m ≡ n → m ≡ 0 + n
  none_before m n is = omega arith

  in_a_row : (pieces : List (Piece F)) (first later : List Packet) → copies_through b pieces (first ++ later) f ≡ copies_through b pieces first f + copies_through b (pieces_after b pieces first) later f
  unfolding copies_through
  in_a_row [] first later = none_meet (copies_through b (pieces_after b [] first) later f) (ap (λ pieces. copies_through b pieces later f) (no_piece_after b first))
  in_a_row (piece ∷ rest) first later =
      let here = handed_on b piece first in
      let there = handed_on b (piece_after b piece first) later in
      rows_meet (copies_by b piece (first ++ later) f) (copies_by b piece first f) (copies_by b (piece_after b piece first) later f)
      (copies_through b rest (handed_on b piece (first ++ later)) f) (copies_through b rest here f) (copies_through b (pieces_after b rest here) there f)
      (copies_through b (pieces_after b (piece ∷ rest) first) later f)
      (by_in_a_row piece first later) (ap (λ ps. copies_through b rest ps f) (handed_on_in_a_row b piece first later) ∙ in_a_row rest here there)
      (ap (λ pieces. copies_through b pieces later f) (pieces_by_piece b piece rest first))

  -- through some pieces and those after
  copies_behind : (pieces later : List (Piece F)) (ps : List Packet) → copies_through b (pieces ++ later) ps f ≡ copies_through b pieces ps f + copies_through b later (still_going ps (long_fates b pieces ps)) f
  unfolding copies_through
  copies_behind [] later ps = none_before (copies_through b later ps f) (copies_through b later (still_going ps (long_fates b [] ps)) f) (ap (λ qs. copies_through b later qs f) (sym (no_piece_goes b ps)))
  copies_behind (piece ∷ rest) later ps =
      let here = handed_on b piece ps in
      let goes : still_going here (long_fates b rest here) ≡ still_going ps (long_fates b (piece ∷ rest) ps) =
      ap (λ qs. still_going qs (long_fates b rest qs)) (handed_on_goes b piece ps) ∙ sym (going_through b (piece ∷ []) rest ps) in
      let assoc : copies_by b piece ps f + (copies_through b rest here f + copies_through b later (still_going here (long_fates b rest here)) f)
      ≡ copies_by b piece ps f + copies_through b rest here f + copies_through b later (still_going here (long_fates b rest here)) f = omega arith in
      ap (λ n. copies_by b piece ps f + n) (copies_behind rest later here) ∙ assoc ∙ ap (λ qs. copies_by b piece ps f + copies_through b rest here f + copies_through b later qs f) goes

pub copies_in_a_row : {F : Type 0} (b : Behaviour F) (pieces : List (Piece F)) (first later : List Packet) (f : Field) →
    copies_through b pieces (first ++ later) f ≡ copies_through b pieces first f + copies_through b (pieces_after b pieces first) later f
copies_in_a_row b pieces first later f = in_a_row b f pieces first later

pub copies_through_both : {F : Type 0} (b : Behaviour F) (pieces later : List (Piece F)) (ps : List Packet) (f : Field) →
    copies_through b (pieces ++ later) ps f ≡ copies_through b pieces ps f + copies_through b later (still_going ps (long_fates b pieces ps)) f
copies_through_both b pieces later ps f = copies_behind b f pieces later ps

pub copies_of_one : {F : Type 0} (b : Behaviour F) (stages : List Stage) (functions : List F) (ps : List Packet) (f : Field) → copies_through b (Graph stages functions ∷ []) ps f ≡ copies_made stages ps (fates b functions ps) f
unfolding copies_through
copies_of_one b stages functions ps f = let none : copies_made stages ps (fates b functions ps) f + 0 ≡ copies_made stages ps (fates b functions ps) f = omega arith in none
