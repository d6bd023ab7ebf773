-- One more piece: an end of a tunnel rewrites the frames that go out in place, and a graph is entered by them.
use Rattle.std.proofs.Common.{◌≡◌, ◌∙◌, ℕ, List, [], ◌∷◌, length, map, ap, refl, sym, subst, arith}
use Rattle.std.specs.Prelude.{OnErr, Result, Ok, Err}
use Rattle.chain_walk.specs.Packets.{Packet}
use Rattle.chain_walk.specs.Step.{Behaviour}
use Rattle.chain_walk.specs.declared.walk.Fate.{Fate}
use Rattle.chain_walk.specs.declared.walk.Fate.TheVariants.{Out, Gone}
use Rattle.nf_tunnel.specs.Tunnels.{decapsulated, encapsulated}
use Rattle.nf_tunnel.specs.declared.decap.Decap.{Decap}
use Rattle.nf_tunnel.specs.declared.encap.Encap.{Encap}
use Rattle.piece_walk.specs.Pieces.{Piece, Whole}
use Rattle.piece_walk.specs.PiecePackets.{long_fates, pieces_after}
use Rattle.piece_walk.specs.Rejoining.{moved, put_back, still_going}
use Rattle.graph_run.specs.Counting.{RaisesAll}
use Rattle.segment_run.specs.Counting.{copies_through}
use Rattle.segment_run.specs.Rewriting.{out_by, out_of, rewritten, without_frame}
use Rattle.segment_run.specs.Segments.{GoesOn, GoesThrough, piece_of}
use Rattle.segment_run.specs.declared.ends.End.TheVariants.{Entry, Exit}
use Rattle.segment_run.specs.declared.piece.Piece.{Piece as RunningPiece}
use Rattle.segment_run.specs.declared.piece.Piece.TheVariants as running
use Rattle.segment_run.proofs.Alone.{whole_goes}

-- if each packet has its fate, those that go out come back in their places
rewritten_back : (by : List ℕ → List ℕ) (before : ℕ) (packets : List Packet) (so_far : List Fate) → length so_far ≡ length packets →
    put_back so_far (map (moved before) (map (out_of by) (still_going packets so_far))) ≡ map (out_by by) so_far
unfolding put_back still_going
rewritten_back by before [] [] same = refl
rewritten_back by before [] (fate ∷ so_far) same = absurd (omega arith)
rewritten_back by before (p ∷ packets) [] same = refl
rewritten_back by before (p ∷ packets) (Out frame ∷ so_far) same = ap (λ l. Out (by frame) ∷ l) (rewritten_back by before packets so_far (omega arith))
rewritten_back by before (p ∷ packets) (Gone position ∷ so_far) same = ap (λ l. Gone position ∷ l) (rewritten_back by before packets so_far (omega arith))

-- the frames of those that go on don't matter if their later fates are put back
back_without_frames : (so_far later : List Fate) → put_back (map without_frame so_far) later ≡ put_back so_far later
unfolding put_back
back_without_frames [] later = refl
back_without_frames (Gone position ∷ so_far) later = ap (λ l. Gone position ∷ l) (back_without_frames so_far later)
back_without_frames (Out frame ∷ so_far) [] = refl
back_without_frames (Out frame ∷ so_far) (fate ∷ later) = ap (λ l. fate ∷ l) (back_without_frames so_far later)

-- what holds whatever the answer is
pub err_always : {T E : Type 0} (r : Result T E) (P : Type 0) → P → OnErr r P
err_always (Ok x) P p = tt
err_always (Err e) P p = p

module _ {F : Type 0} (b : Behaviour F) (packets : List Packet) (before : ℕ) (so_far : List Fate) where
  -- those that go on ran through the piece alone
  pub alone_goes_on : (piece after : Piece F) (going : List Packet) (stays fates ended : List Fate) (old new : List ℕ) → stays ≡ map without_frame so_far → going ≡ still_going packets so_far →
      GoesThrough b (piece ∷ []) going old new (after ∷ []) fates → ended ≡ put_back stays (map (moved before) fates) → GoesOn b piece packets before so_far old new after ended
  alone_goes_on piece after going stays fates ended old new blank is goes put = record {
    fates = put ∙ ap (λ l. put_back l (map (moved before) fates)) blank ∙ back_without_frames so_far (map (moved before) fates)
        ∙ ap (λ l. put_back so_far (map (moved before) l)) (goes.fates ∙ ap (long_fates b (piece ∷ [])) is);
    piece_left = goes.pieces_left ∙ ap (pieces_after b (piece ∷ [])) is;
    counted = subst (λ ps. RaisesAll (copies_through b (piece ∷ []) ps) old new) is goes.counted;
  }

  whole_goes_on : (by : List ℕ → List ℕ) (old : List ℕ) (ended : List Fate) → length so_far ≡ length packets → ended ≡ map (out_by by) so_far → GoesOn b (Whole by) packets before so_far old old (Whole by) ended
  whole_goes_on by old ended same is =
      let going = still_going packets so_far in
      let goes : GoesThrough b (Whole by ∷ []) going old old (Whole by ∷ []) (map (out_of by) going) = whole_goes b going by old (map (out_of by) going) refl in
      record {
        fates = is ∙ sym (rewritten_back by before packets so_far same) ∙ ap (λ l. put_back so_far (map (moved before) l)) goes.fates;
        piece_left = goes.pieces_left;
        counted = goes.counted;
      }

  module _ (piece : RunningPiece F) (old : List ℕ) (ended : List Fate) (same : length so_far ≡ length packets) where
    -- the end of a tunnel is that piece
    pub entry_goes_on : (tunnel : Encap) → piece ≡ running.Encap tunnel → ended ≡ map (out_by (rewritten (Entry tunnel))) so_far → GoesOn b (piece_of piece) packets before so_far old old (Whole (encapsulated tunnel)) ended
    entry_goes_on tunnel is all = subst (λ p. GoesOn b (piece_of p) packets before so_far old old (Whole (encapsulated tunnel)) ended) (sym is) (whole_goes_on (encapsulated tunnel) old ended same all)

    pub exit_goes_on : (tunnel : Decap) → piece ≡ running.Decap tunnel → ended ≡ map (out_by (rewritten (Exit tunnel))) so_far → GoesOn b (piece_of piece) packets before so_far old old (Whole (decapsulated tunnel)) ended
    exit_goes_on tunnel is all = subst (λ p. GoesOn b (piece_of p) packets before so_far old old (Whole (decapsulated tunnel)) ended) (sym is) (whole_goes_on (decapsulated tunnel) old ended same all)
