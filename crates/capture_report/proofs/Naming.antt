-- A function is found by its name, piece by piece.
use Rattle.std.proofs.Common.{◌≡◌, ◌<◌, ◌+◌, ◌∙◌, ℕ, List, [], ◌∷◌, ◌++◌, length, take, drop, ap, sym}
use Rattle.std.specs.Prelude.{Bool, Option, Some, None, slice_index_or}
use Rattle.std.specs.List.{find, flat_map}
use Rattle.std.specs.Option.{option_or}
use Rattle.std.proofs.lemmas.List.{append-nil, map-append, take-append-drop, take_more}
use Rattle.std.proofs.lemmas.List.Concat.{flat_map-append}
use Rattle.std.proofs.lemmas.List.Folds.{find-append}
use Rattle.piece_walk.specs.Pieces.{functions_in, functions_of}
use Rattle.burst_walk.specs.SegmentRunProofs.{Piece, piece_of, pieces_of}
use Rattle.burst_walk.specs.ChainService.{NamedFunction}

-- the functions of pieces that run
abbrev pub running_in : List (Piece NamedFunction) → List NamedFunction
running_in pieces = functions_in (pieces_of pieces)

running-append : (xs ys : List (Piece NamedFunction)) → running_in (xs ++ ys) ≡ running_in xs ++ running_in ys
running-append xs ys = ap (flat_map functions_of) (map-append piece_of xs ys) ∙ flat_map-append functions_of (pieces_of xs) (pieces_of ys)

module _ (p : NamedFunction → Bool) (pieces : List (Piece NamedFunction)) (index : ℕ) (piece : Piece NamedFunction) (found : Option NamedFunction) where
  -- what is found up to a piece and in it, if nothing was found before it
  pub found_so_far : index < length pieces → piece ≡ slice_index_or pieces index piece → find p (running_in (take index pieces)) ≡ None →
      found ≡ find p (functions_of (piece_of piece)) → find p (running_in (take (index + 1) pieces)) ≡ found
  found_so_far inside is none here =
      let front = running_in (take index pieces) in
      let own = functions_of (piece_of piece) in
      ap (λ l. find p (running_in l)) (take_more pieces index piece inside ∙ ap (λ x. take index pieces ++ x ∷ []) (sym is))
      ∙ ap (find p) (running-append (take index pieces) (piece ∷ []) ∙ ap (λ l. front ++ l) (append-nil own))
      ∙ find-append p front own ∙ ap (λ o. option_or o (find p own)) none ∙ sym here

-- what was found stays found, whatever follows it
pub found_among : (p : NamedFunction → Bool) (pieces : List (Piece NamedFunction)) (index : ℕ) (f : NamedFunction) → find p (running_in (take index pieces)) ≡ Some f →
    Some f ≡ find p (running_in pieces)
found_among p pieces index f here =
    let behind = running_in (drop index pieces) in
    ap (λ o. option_or o (find p behind)) (sym here)
    ∙ sym (find-append p (running_in (take index pieces)) behind)
    ∙ ap (find p) (sym (running-append (take index pieces) (drop index pieces)) ∙ ap running_in (take-append-drop index pieces))
