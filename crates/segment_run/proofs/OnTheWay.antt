-- Packets on their way: they went through some pieces, and the others remain.
use Rattle.std.proofs.Common.{◌≡◌, ◌≤◌, ◌∙◌, ◌+◌, ℕ, List, [], ◌∷◌, ◌++◌, length, map, ap, refl, sym, subst, append_assoc, arith}
use Rattle.std.specs.Prelude.{All}
use Rattle.std.proofs.lemmas.List.Sums.{sum_by-append, sum_by-cons}
use Rattle.packet_fields.specs.declared.field.Field.{Field}
use Rattle.chain_walk.specs.Packets.{Packet}
use Rattle.chain_walk.specs.Step.{Behaviour}
use Rattle.chain_walk.specs.Walk.{EndsWithin}
use Rattle.chain_walk.specs.declared.walk.Fate.{Fate}
use Rattle.piece_walk.specs.Pieces.{Piece, count_of}
use Rattle.piece_walk.specs.PiecePackets.{long_fates, pieces_after}
use Rattle.piece_walk.specs.Rejoining.{moved, put_back, still_going}
use Rattle.piece_walk.proofs.PacketsInRow.{count_of_fates}
use Rattle.piece_walk.proofs.Through.{fates_through, pieces_through}
use Rattle.piece_walk.proofs.Within.{all_within}
use Rattle.graph_run.specs.Counting.{RaisesUpTo}
use Rattle.segment_run.specs.Counting.{copies_through}
use Rattle.segment_run.specs.Segments.{GoesOn, GoesThrough, functions_count}
use Rattle.segment_run.proofs.CopiesInRow.{copies_through_both}
use Rattle.segment_run.proofs.Raising.{all_made, raises_bounded, raises_more}

-- The packets went through the pieces in front, which are left so, and others remain.
pub record IsOnTheWay {F : Type 0} (b : Behaviour F) (pieces : List (Piece F)) (packets : List Packet) (old new : List ℕ) (left : List (Piece F)) (done : List (Piece F)) (ended : List Fate) (before : ℕ) : Type 0 where
  pub front : List (Piece F)
  pub row : pieces ≡ front ++ left
  pub count : before ≡ functions_count front
  pub goes : GoesThrough b front packets old new done ended

module _ {F : Type 0} (b : Behaviour F) (packets : List Packet) where
  goes_more : (front : List (Piece F)) (piece : Piece F) (old new newer : List ℕ) (done : List (Piece F)) (so_far ended : List Fate) (after : Piece F) (before : ℕ) → before ≡ functions_count front →
      GoesThrough b front packets old new done so_far → GoesOn b piece packets before so_far new newer after ended → GoesThrough b (front ++ piece ∷ []) packets old newer (done ++ after ∷ []) ended
  goes_more front piece old new newer done so_far ended after before count first one =
      let behind = λ (fates : List Fate). still_going packets fates in
      let fates_are : ended ≡ long_fates b (front ++ piece ∷ []) packets =
      one.fates ∙ ap (λ n. put_back so_far (map (moved n) (long_fates b (piece ∷ []) (still_going packets so_far)))) count
      ∙ ap (λ (fates : List Fate). put_back fates (map (moved (functions_count front)) (long_fates b (piece ∷ []) (still_going packets fates)))) first.fates
      ∙ sym (fates_through b front (piece ∷ []) packets) in
      record {
        fates = fates_are;
        pieces_left = ap (λ l. l ++ after ∷ []) first.pieces_left ∙ ap (λ l. pieces_after b front packets ++ l) (one.piece_left ∙ ap (λ (fates : List Fate). pieces_after b (piece ∷ []) (still_going packets fates)) first.fates)
            ∙ sym (pieces_through b front (piece ∷ []) packets);
        within = subst (All (EndsWithin (functions_count (front ++ piece ∷ [])))) (sym fates_are) (all_within b (front ++ piece ∷ []) packets);
        counted = raises_more (copies_through b front packets) (copies_through b (piece ∷ []) (still_going packets so_far)) (copies_through b (front ++ piece ∷ []) packets) old new newer
            (λ f. copies_through_both b front (piece ∷ []) packets f ∙ ap (λ (fates : List Fate). copies_through b front packets f + copies_through b (piece ∷ []) (still_going packets fates) f) (sym first.fates))
            first.counted one.counted;
      }

  pub way_begins : (pieces left done : List (Piece F)) (piece : Piece F) (old new : List ℕ) (ended : List Fate) (before : ℕ) → pieces ≡ piece ∷ left → before ≡ count_of piece →
      GoesThrough b (piece ∷ []) packets old new done ended → IsOnTheWay b pieces packets old new left done ended before
  way_begins pieces left done piece old new ended before row count goes =
      let none : count_of piece ≡ functions_count (piece ∷ []) = omega (arith, sum_by-cons count_of piece []) in
      record { front = piece ∷ []; row = row; count = count ∙ none; goes = goes }

  pub way_goes_on : (pieces left left' done done' : List (Piece F)) (piece after : Piece F) (old new newer : List ℕ) (so_far ended : List Fate) (before count before' : ℕ) →
      IsOnTheWay b pieces packets old new left done so_far before → left ≡ piece ∷ left' → count ≡ count_of piece → before' ≡ before + count → done' ≡ done ++ after ∷ [] →
      GoesOn b piece packets before so_far new newer after ended → IsOnTheWay b pieces packets old newer left' done' ended before'
  way_goes_on pieces left left' done done' piece after old new newer so_far ended before count before' at next is more push one =
      let before_is = at.count in
      let sum = sum_by-append count_of at.front (piece ∷ []) in
      let own = sum_by-cons count_of piece [] in
      record {
        front = at.front ++ piece ∷ [];
        row = at.row ∙ ap (λ l. at.front ++ l) next ∙ sym (append_assoc at.front (piece ∷ []) left');
        count = omega arith;
        goes = subst (λ l. GoesThrough b (at.front ++ piece ∷ []) packets old newer l ended) (sym push) (goes_more at.front piece old new newer done so_far ended after before before_is at.goes one);
      }

  pub way_ends : (pieces left done : List (Piece F)) (old new : List ℕ) (ended : List Fate) (before : ℕ) → IsOnTheWay b pieces packets old new left done ended before → left ≡ [] → GoesThrough b pieces packets old new done ended
  way_ends pieces left done old new ended before at none =
      subst (λ l. GoesThrough b l packets old new done ended) (sym (at.row ∙ ap (λ l. at.front ++ l) none ∙ append_nil at.front)) at.goes
    where
      append_nil : (l : List (Piece F)) → l ++ [] ≡ l
      append_nil [] = refl
      append_nil (x ∷ l) = ap (λ r. x ∷ r) (append_nil l)

  -- each packet ended or goes on
  pub way_counts : (pieces left done : List (Piece F)) (old new : List ℕ) (ended : List Fate) (before : ℕ) → IsOnTheWay b pieces packets old new left done ended before → length ended ≡ length packets
  way_counts pieces left done old new ended before at = ap length at.goes.fates ∙ count_of_fates b at.front packets

  -- the copies of the pieces in front are within those of all
  front_copies : (pieces front left : List (Piece F)) (f : Field) → pieces ≡ front ++ left → copies_through b front packets f ≤ copies_through b pieces packets f
  front_copies pieces front left f row =
      let both : copies_through b pieces packets f ≡ copies_through b front packets f + copies_through b left (still_going packets (long_fates b front packets)) f =
      ap (λ l. copies_through b l packets f) row ∙ copies_through_both b front left packets f in
      omega (arith, both)

  -- no more was made than all make
  pub way_within : (pieces left done : List (Piece F)) (old new : List ℕ) (ended : List Fate) (before : ℕ) → IsOnTheWay b pieces packets old new left done ended before → RaisesUpTo (copies_through b pieces packets) old new
  way_within pieces left done old new ended before at =
      all_made (copies_through b at.front packets) (copies_through b pieces packets) old new (λ f. front_copies pieces at.front left f at.row) at.goes.counted

  pub way_refused : (pieces left left' done : List (Piece F)) (piece : Piece F) (old new newer : List ℕ) (so_far : List Fate) (before : ℕ) → IsOnTheWay b pieces packets old new left done so_far before → left ≡ piece ∷ left' →
      RaisesUpTo (copies_through b (piece ∷ []) (still_going packets so_far)) new newer → RaisesUpTo (copies_through b pieces packets) old newer
  way_refused pieces left left' done piece old new newer so_far before at next refused =
      raises_bounded (copies_through b at.front packets) (copies_through b (piece ∷ []) (still_going packets so_far)) (copies_through b pieces packets) old new newer
      (λ f. let row : pieces ≡ (at.front ++ piece ∷ []) ++ left' = at.row ∙ ap (λ l. at.front ++ l) next ∙ sym (append_assoc at.front (piece ∷ []) left') in
      let most = front_copies pieces (at.front ++ piece ∷ []) left' f row in
      let both : copies_through b (at.front ++ piece ∷ []) packets f ≡ copies_through b at.front packets f + copies_through b (piece ∷ []) (still_going packets so_far) f =
      copies_through_both b at.front (piece ∷ []) packets f ∙ ap (λ (fates : List Fate). copies_through b at.front packets f + copies_through b (piece ∷ []) (still_going packets fates) f) (sym at.goes.fates) in
      omega (arith, most, both))
      at.goes.counted refused
