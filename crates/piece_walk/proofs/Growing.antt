-- The greatest length of a frame on its way through the pieces.
use Rattle.std.proofs.Common.{◌≤◌, ◌+◌, ◌*◌, ℕ, Bool, true, false, List, [], ◌∷◌, length, subst, arith}
use Rattle.std.specs.Prelude.{All, if◌then◌else◌, sum_by}
use Rattle.std.proofs.lemmas.List.Elements.{All-cons, All-nil, All-head, All-tail}
use Rattle.std.proofs.lemmas.List.Sums.{sum_by-cons}
use Rattle.packet_fields.specs.Checksums.{sealed}
use Rattle.chain_walk.specs.Laws.{KeepsProfile}
use Rattle.chain_walk.specs.Step.{Behaviour, is_drop}
use Rattle.chain_walk.specs.Walk.{Walked, walk, applied, frame_after, dropped_at, then_walked}
use Rattle.chain_walk.specs.Packets.{Packet}
use Rattle.chain_walk.specs.declared.walk.Fate.{Fate}
use Rattle.chain_walk.specs.declared.walk.Fate.TheVariants.{Out, Gone}
use Rattle.piece_walk.specs.Pieces.{Piece, Graph, Whole, Went, long, went_on, count_of}
use Rattle.piece_walk.specs.PiecePackets.{long_fates}
use Rattle.piece_walk.specs.Kinds.{GrowsLittle, IsNoLonger}
use Rattle.piece_walk.proofs.FrameSizes.{frame_grows, sealed_length}
use Rattle.piece_walk.proofs.Keeping.{way_keeps_count}

longer : (n m : ℕ) (fate : Fate) → n ≤ m → IsNoLonger n fate → IsNoLonger m fate
longer n m (Out frame) le h = omega arith
longer n m (Gone position) le h = tt

walk_by : {F : Type 0} (drops : Bool) (most position : ℕ) (f : F) (later : List F) (w : Walked F) → IsNoLonger most w.fate → IsNoLonger most (if drops then dropped_at position f later else then_walked f w).fate
walk_by true most position f later w h = tt
walk_by false most position f later w h = h

on_grows : {F : Type 0} (n m : ℕ) (piece : Piece F) (later : List (Piece F)) (on : List ℕ → Went F) (fate : Fate) → IsNoLonger n fate → ((frame : List ℕ) → length frame ≤ n → IsNoLonger m (on frame).fate) → IsNoLonger m (went_on piece later on fate).fate
on_grows n m piece later on (Out frame) h rest = rest frame h
on_grows n m piece later on (Gone position) h rest = tt

module _ {F : Type 0} (b : Behaviour F) (keeps : KeepsProfile b) where
  walk_grows : (time position : ℕ) (functions : List F) (frame : List ℕ) → IsNoLonger (length frame + 4 * length functions) (walk b time position functions frame).fate
  unfolding walk
  walk_grows time position [] frame = omega arith
  walk_grows time position (f ∷ later) frame =
      let next = frame_after b time f frame in
      let once = frame_grows b time f frame keeps in
      walk_by (is_drop (applied b time f frame).verdict) (length frame + 4 * length (f ∷ later)) position (applied b time f frame).after later (walk b time (position + 1) later next)
      (longer (length next + 4 * length later) (length frame + 4 * length (f ∷ later)) (walk b time (position + 1) later next).fate (omega arith) (walk_grows time (position + 1) later next))

  way_grows : (time position most : ℕ) (pieces : List (Piece F)) (frame : List ℕ) → All GrowsLittle pieces → length frame ≤ most → IsNoLonger (most + 20 * sum_by count_of pieces) (long b time position pieces frame).fate
  unfolding long
  way_grows time position most [] frame little short = omega arith
  way_grows time position most (Graph stages functions ∷ later) frame little short =
      let count = sum_by-cons count_of (Graph stages functions) later in
      on_grows (most + 20 * length functions) (most + 20 * sum_by count_of (Graph stages functions ∷ later)) (Graph stages (walk b time position functions frame).functions) later
      (λ left. long b time (position + length functions) later (sealed frame left)) (walk b time position functions frame).fate
      (longer (length frame + 4 * length functions) (most + 20 * length functions) (walk b time position functions frame).fate (omega arith) (walk_grows time position functions frame))
      (λ left within. let same = sealed_length frame left in
      longer (most + 20 * length functions + 20 * sum_by count_of later) (most + 20 * sum_by count_of (Graph stages functions ∷ later)) (long b time (position + length functions) later (sealed frame left)).fate (omega arith)
      (way_grows time (position + length functions) (most + 20 * length functions) later (sealed frame left) (All-tail GrowsLittle (Graph stages functions) later little) (omega arith)))
  way_grows time position most (Whole rewritten ∷ later) frame little short =
      let count = sum_by-cons count_of (Whole rewritten) later in
      let own = All-head GrowsLittle (Whole rewritten) later little frame in
      longer (most + 20 + 20 * sum_by count_of later) (most + 20 * sum_by count_of (Whole rewritten ∷ later)) (long b time (position + 1) later (rewritten frame)).fate (omega arith)
      (way_grows time (position + 1) (most + 20) later (rewritten frame) (All-tail GrowsLittle (Whole rewritten) later little) (omega arith))

  on_little : (piece : Piece F) (later : List (Piece F)) (on : List ℕ → Went F) (fate : Fate) → GrowsLittle piece → All GrowsLittle later → ((frame : List ℕ) → All GrowsLittle (on frame).pieces) → All GrowsLittle (went_on piece later on fate).pieces
  on_little piece later on (Out frame) own little rest = All-cons GrowsLittle piece (on frame).pieces own (rest frame)
  on_little piece later on (Gone position) own little rest = All-cons GrowsLittle piece later own little

  -- pieces that make frames little longer still do
  way_little : (time position : ℕ) (pieces : List (Piece F)) (frame : List ℕ) → All GrowsLittle pieces → All GrowsLittle (long b time position pieces frame).pieces
  unfolding long
  way_little time position [] frame little = All-nil GrowsLittle
  way_little time position (Graph stages functions ∷ later) frame little =
      let behind = All-tail GrowsLittle (Graph stages functions) later little in
      on_little (Graph stages (walk b time position functions frame).functions) later (λ left. long b time (position + length functions) later (sealed frame left)) (walk b time position functions frame).fate tt behind
      (λ left. way_little time (position + length functions) later (sealed frame left) behind)
  way_little time position (Whole rewritten ∷ later) frame little =
      All-cons GrowsLittle (Whole rewritten) (long b time (position + 1) later (rewritten frame)).pieces (All-head GrowsLittle (Whole rewritten) later little)
      (way_little time (position + 1) later (rewritten frame) (All-tail GrowsLittle (Whole rewritten) later little))

  all_grow : (pieces : List (Piece F)) (ps : List Packet) (most : ℕ) → All GrowsLittle pieces → All (λ p. length p.frame ≤ most) ps → All (IsNoLonger (most + 20 * sum_by count_of pieces)) (long_fates b pieces ps)
  unfolding long_fates
  all_grow pieces [] most little short = All-nil (IsNoLonger (most + 20 * sum_by count_of pieces))
  all_grow pieces (p ∷ ps) most little short =
      let here = way_grows p.time 1 most pieces p.frame little (All-head (λ (q : Packet). length q.frame ≤ most) p ps short) in
      let rest = all_grow (long b p.time 1 pieces p.frame).pieces ps most (way_little p.time 1 pieces p.frame little) (All-tail (λ (q : Packet). length q.frame ≤ most) p ps short) in
      All-cons (IsNoLonger (most + 20 * sum_by count_of pieces)) (long b p.time 1 pieces p.frame).fate (long_fates b (long b p.time 1 pieces p.frame).pieces ps) here
      (subst (λ n. All (IsNoLonger (most + 20 * n)) (long_fates b (long b p.time 1 pieces p.frame).pieces ps)) (way_keeps_count b p.time 1 pieces p.frame) rest)

pub frames_grow : {F : Type 0} (b : Behaviour F) (pieces : List (Piece F)) (ps : List Packet) (most : ℕ) → KeepsProfile b → All GrowsLittle pieces → All (λ p. length p.frame ≤ most) ps → All (IsNoLonger (most + 20 * sum_by count_of pieces)) (long_fates b pieces ps)
frames_grow b pieces ps most keeps little short = all_grow b keeps pieces ps most little short
