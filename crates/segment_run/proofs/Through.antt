-- The loop that runs packets through the pieces of a chain, one after another: what holds at each turn.
use Rattle.std.proofs.Common.{◌≡◌, ◌≤◌, ◌∙◌, ◌+◌, ℕ, List, [], ◌∷◌, ◌++◌, Result, Ok, Err, length, ap, refl, sym, subst, arith}
use Rattle.std.specs.Prelude.{OnErr}
use Rattle.std.proofs.lemmas.List.{map_push}
use Rattle.std.proofs.lemmas.List.Sums.{sum_by-append, sum_by-cons}
use Rattle.packet_fields.specs.declared.field.Field.{Field}
use Rattle.chain_walk.specs.Packets.{Packet}
use Rattle.chain_walk.specs.Step.{Behaviour}
use Rattle.chain_walk.specs.declared.walk.Fate.{Fate}
use Rattle.piece_walk.specs.Pieces.{Piece, count_of}
use Rattle.piece_walk.specs.PiecePackets.{long_fates}
use Rattle.piece_walk.specs.Rejoining.{still_going}
use Rattle.graph_run.specs.Counting.{RaisesUpTo}
use Rattle.segment_run.specs.Counting.{copies_through}
use Rattle.segment_run.specs.Segments.{GoesOn, GoesThrough, functions_count, piece_of, pieces_of}
use Rattle.segment_run.specs.declared.piece.Piece.{Piece as RunningPiece}
use Rattle.segment_run.proofs.CopiesInRow.{copies_through_both}
use Rattle.segment_run.proofs.OnTheWay.{IsOnTheWay, way_begins, way_ends, way_goes_on, way_refused, way_within}
use Rattle.segment_run.proofs.Raising.{all_made, raises_within}

-- what always holds also holds on an error
pub on_err : {T E : Type 0} (r : Result T E) (P : Type 0) → P → OnErr r P
on_err (Ok x) P p = tt
on_err (Err e) P p = p

-- a list of no length
pub none_left : {X : Type 0} (xs : List X) → length xs ≡ 0 → xs ≡ []
none_left [] none = refl
none_left (x ∷ xs) none = absurd (omega arith)

module _ {F : Type 0} (b : Behaviour F) (packets : List Packet) where
  -- the first piece
  first_copies : (piece : Piece F) (rest : List (Piece F)) (f : Field) → copies_through b (piece ∷ []) packets f ≤ copies_through b (piece ∷ rest) packets f
  first_copies piece rest f =
      let both : copies_through b (piece ∷ rest) packets f ≡ copies_through b (piece ∷ []) packets f + copies_through b rest (still_going packets (long_fates b (piece ∷ []) packets)) f = copies_through_both b (piece ∷ []) rest packets f in
      omega (arith, both)

  pub first_refused : (piece : Piece F) (rest : List (Piece F)) (old new : List ℕ) → RaisesUpTo (copies_through b (piece ∷ []) packets) old new → RaisesUpTo (copies_through b (piece ∷ rest) packets) old new
  first_refused piece rest old new refused = raises_within (copies_through b (piece ∷ []) packets) (copies_through b (piece ∷ rest) packets) old new (first_copies piece rest) refused

  pub first_within : (piece : Piece F) (rest done : List (Piece F)) (old new : List ℕ) (ended : List Fate) → GoesThrough b (piece ∷ []) packets old new done ended → RaisesUpTo (copies_through b (piece ∷ rest) packets) old new
  first_within piece rest done old new ended goes = all_made (copies_through b (piece ∷ []) packets) (copies_through b (piece ∷ rest) packets) old new (first_copies piece rest) goes.counted

  pub through_begins : (first after : RunningPiece F) (rest rest' none done : List (RunningPiece F)) (old new : List ℕ) (ended : List Fate) (before : ℕ) → rest' ≡ rest → none ≡ [] → done ≡ none ++ after ∷ [] → before ≡ count_of (piece_of first) →
      GoesThrough b (piece_of first ∷ []) packets old new (piece_of after ∷ []) ended → IsOnTheWay b (piece_of first ∷ pieces_of rest) packets old new (pieces_of rest') (pieces_of done) ended before
  through_begins first after rest rest' none done old new ended before same empty push count goes =
      let one : done ≡ after ∷ [] = push ∙ ap (λ (l : List (RunningPiece F)). l ++ after ∷ []) empty in
      let done_is : pieces_of done ≡ piece_of after ∷ [] = ap (λ (l : List (RunningPiece F)). pieces_of l) one in
      way_begins b packets (piece_of first ∷ pieces_of rest) (pieces_of rest') (pieces_of done) (piece_of first) old new ended before (ap (λ (l : List (RunningPiece F)). piece_of first ∷ pieces_of l) (sym same)) count
      (subst (λ l. GoesThrough b (piece_of first ∷ []) packets old new l ended) (sym done_is) goes)

  -- the remaining pieces
  pub through_goes_on : (pieces : List (Piece F)) (items items' done done' : List (RunningPiece F)) (piece after : RunningPiece F) (old new newer : List ℕ) (so_far ended : List Fate) (before count : ℕ) →
      IsOnTheWay b pieces packets old new (pieces_of items) (pieces_of done) so_far before → items ≡ piece ∷ items' → count ≡ count_of (piece_of piece) → done' ≡ done ++ after ∷ [] →
      GoesOn b (piece_of piece) packets before so_far new newer (piece_of after) ended → IsOnTheWay b pieces packets old newer (pieces_of items') (pieces_of done') ended (before + count)
  through_goes_on pieces items items' done done' piece after old new newer so_far ended before count at next is push one =
      way_goes_on b packets pieces (pieces_of items) (pieces_of items') (pieces_of done) (pieces_of done') (piece_of piece) (piece_of after) old new newer so_far ended before count (before + count) at
      (ap (λ (l : List (RunningPiece F)). pieces_of l) next) is refl (ap (λ (l : List (RunningPiece F)). pieces_of l) push ∙ map_push piece_of done after) one

  pub through_ends : (pieces : List (Piece F)) (items : List (RunningPiece F)) (done : List (Piece F)) (old new : List ℕ) (ended : List Fate) (before : ℕ) → IsOnTheWay b pieces packets old new (pieces_of items) done ended before → length items ≡ 0 →
      GoesThrough b pieces packets old new done ended
  through_ends pieces items done old new ended before at none =
      way_ends b packets pieces (pieces_of items) done old new ended before at (ap (λ (l : List (RunningPiece F)). pieces_of l) (none_left items none))

  pub next_refused : (pieces : List (Piece F)) (items items' : List (RunningPiece F)) (done : List (Piece F)) (piece : RunningPiece F) (old new newer : List ℕ) (so_far : List Fate) (before : ℕ) →
      IsOnTheWay b pieces packets old new (pieces_of items) done so_far before → items ≡ piece ∷ items' → RaisesUpTo (copies_through b (piece_of piece ∷ []) (still_going packets so_far)) new newer → RaisesUpTo (copies_through b pieces packets) old newer
  next_refused pieces items items' done piece old new newer so_far before at next refused =
      way_refused b packets pieces (pieces_of items) (pieces_of items') done (piece_of piece) old new newer so_far before at (ap (λ (l : List (RunningPiece F)). pieces_of l) next) refused

  pub next_within : (pieces : List (Piece F)) (items items' : List (RunningPiece F)) (done : List (Piece F)) (piece after : RunningPiece F) (old new newer : List ℕ) (so_far ended : List Fate) (before : ℕ) →
      IsOnTheWay b pieces packets old new (pieces_of items) done so_far before → items ≡ piece ∷ items' → GoesOn b (piece_of piece) packets before so_far new newer (piece_of after) ended → RaisesUpTo (copies_through b pieces packets) old newer
  next_within pieces items items' done piece after old new newer so_far ended before at next one =
      way_within b packets pieces (pieces_of items') (done ++ piece_of after ∷ []) old newer ended (before + count_of (piece_of piece))
      (way_goes_on b packets pieces (pieces_of items) (pieces_of items') done (done ++ piece_of after ∷ []) (piece_of piece) (piece_of after) old new newer so_far ended before (count_of (piece_of piece)) (before + count_of (piece_of piece)) at
      (ap (λ (l : List (RunningPiece F)). pieces_of l) next) refl refl refl one)

  -- with the next piece the functions are still few
  pub next_few : (pieces : List (Piece F)) (items items' : List (RunningPiece F)) (done : List (Piece F)) (piece : RunningPiece F) (old new : List ℕ) (so_far : List Fate) (before : ℕ) → IsOnTheWay b pieces packets old new (pieces_of items) done so_far before →
      items ≡ piece ∷ items' → functions_count pieces ≤ 64 → before + count_of (piece_of piece) ≤ 64
  next_few pieces items items' done piece old new so_far before at next few =
      let before_is = at.count in
      let whole : functions_count pieces ≡ functions_count (at.front ++ pieces_of items) = ap (λ (l : List (Piece F)). functions_count l) at.row in
      let sum = sum_by-append count_of at.front (pieces_of items) in
      let left : functions_count (pieces_of items) ≡ functions_count (piece_of piece ∷ pieces_of items') = ap (λ (l : List (RunningPiece F)). functions_count (pieces_of l)) next in
      let own = sum_by-cons count_of (piece_of piece) (pieces_of items') in
      omega (arith, few, before_is, whole, sum, left, own)
