-- No packet changes which pieces a chain has, in which stages they run, or what the profiles of their functions are.
use Rattle.std.proofs.Common.{◌≡◌, ◌∙◌, ◌+◌, ℕ, Bool, true, false, List, [], ◌∷◌, ◌++◌, length, map, ap, refl, sym}
use Rattle.std.specs.Prelude.{if◌then◌else◌, sum_by}
use Rattle.std.proofs.lemmas.List.Sums.{sum_by-cons}
use Rattle.packet_fields.specs.Checksums.{sealed}
use Rattle.packet_fields.specs.Writing.{fields_of}
use Rattle.graph_compile.specs.declared.graph.Stage.{Stage}
use Rattle.chain_walk.specs.Shown.{fixed_of}
use Rattle.chain_walk.specs.Laws.{KeepsProfile}
use Rattle.chain_walk.specs.Step.{Behaviour, is_drop}
use Rattle.chain_walk.specs.Walk.{Walked, walk, applied, frame_after, dropped_at, then_walked}
use Rattle.chain_walk.specs.Packets.{Packet}
use Rattle.chain_walk.specs.declared.walk.Fate.{Fate}
use Rattle.chain_walk.specs.declared.walk.Fate.TheVariants.{Out, Gone}
use Rattle.piece_walk.specs.Pieces.{Piece, Graph, Whole, Went, long, went_on, count_of, functions_in}
use Rattle.piece_walk.specs.PiecePackets.{pieces_after}
use Rattle.piece_walk.specs.Kinds.{stages_of, kind_of}
use Rattle.piece_walk.proofs.PieceByPiece.{as_many_functions}

-- A property of pieces that no packet changes, if no walk of a piece's functions does.
record IsKept {F : Type 0} (b : Behaviour F) (X : Type 0) (of : Piece F → X) : Type 0 where
  walks : (stages : List Stage) (time position : ℕ) (functions : List F) (frame : List ℕ) → of (Graph stages (walk b time position functions frame).functions) ≡ of (Graph stages functions)

module _ {F : Type 0} (b : Behaviour F) {X : Type 0} (of : Piece F → X) (kept : IsKept b X of) where
  on_by : (piece : Piece F) (later : List (Piece F)) (on : List ℕ → Went F) (fate : Fate) → ((frame : List ℕ) → map of (on frame).pieces ≡ map of later) →
      map of (went_on piece later on fate).pieces ≡ of piece ∷ map of later
  on_by piece later on (Out frame) h = ap (λ l. of piece ∷ l) (h frame)
  on_by piece later on (Gone position) h = refl

  way_keeps : (time position : ℕ) (pieces : List (Piece F)) (frame : List ℕ) → map of (long b time position pieces frame).pieces ≡ map of pieces
  unfolding long
  way_keeps time position [] frame = refl
  way_keeps time position (Graph stages functions ∷ later) frame =
      on_by (Graph stages (walk b time position functions frame).functions) later (λ left. long b time (position + length functions) later (sealed frame left)) (walk b time position functions frame).fate
      (λ left. way_keeps time (position + length functions) later (sealed frame left))
      ∙ ap (λ x. x ∷ map of later) (kept.walks stages time position functions frame)
  way_keeps time position (Whole rewritten ∷ later) frame = ap (λ l. of (Whole rewritten) ∷ l) (way_keeps time (position + 1) later (rewritten frame))

  packets_keep : (pieces : List (Piece F)) (ps : List Packet) → map of (pieces_after b pieces ps) ≡ map of pieces
  unfolding pieces_after
  packets_keep pieces [] = refl
  packets_keep pieces (p ∷ ps) = packets_keep (long b p.time 1 pieces p.frame).pieces ps ∙ way_keeps p.time 1 pieces p.frame

module _ {F : Type 0} (b : Behaviour F) where
  profiles_by : (drops : Bool) (position : ℕ) (f f' : F) (later : List F) (w : Walked F) → b.profile f' ≡ b.profile f → map b.profile w.functions ≡ map b.profile later →
      map b.profile (if drops then dropped_at position f' later else then_walked f' w).functions ≡ b.profile f ∷ map b.profile later
  profiles_by true position f f' later w same rest = ap (λ x. x ∷ map b.profile later) same
  profiles_by false position f f' later w same rest = λ i. same i ∷ rest i

  profiles_stay : (time position : ℕ) (functions : List F) (frame : List ℕ) → KeepsProfile b → map b.profile (walk b time position functions frame).functions ≡ map b.profile functions
  unfolding walk
  profiles_stay time position [] frame keeps = refl
  profiles_stay time position (f ∷ later) frame keeps =
      profiles_by (is_drop (applied b time f frame).verdict) position f (applied b time f frame).after later (walk b time (position + 1) later (frame_after b time f frame))
      (keeps.stays (fixed_of time frame) f (fields_of frame)) (profiles_stay time (position + 1) later (frame_after b time f frame) keeps)

  pub stages_stay : (pieces : List (Piece F)) (ps : List Packet) → map stages_of (pieces_after b pieces ps) ≡ map stages_of pieces
  stages_stay pieces ps = packets_keep b stages_of (record { walks = λ stages time position functions frame. refl }) pieces ps

  counts_stay : (pieces : List (Piece F)) (ps : List Packet) → map count_of (pieces_after b pieces ps) ≡ map count_of pieces
  counts_stay pieces ps = packets_keep b count_of (record { walks = λ stages time position functions frame. as_many_functions b time position functions frame }) pieces ps

  pub kinds_stay : (pieces : List (Piece F)) (ps : List Packet) → KeepsProfile b → map (kind_of b) (pieces_after b pieces ps) ≡ map (kind_of b) pieces
  kinds_stay pieces ps keeps = packets_keep b (kind_of b) (record { walks = λ stages time position functions frame. ap (Graph stages) (profiles_stay time position functions frame keeps) }) pieces ps

  sum_of_counts : (pieces : List (Piece F)) → sum_by count_of pieces ≡ sum_by (λ n. n) (map count_of pieces)
  sum_of_counts [] = refl
  sum_of_counts (piece ∷ later) = sum_by-cons count_of piece later ∙ ap (λ n. count_of piece + n) (sum_of_counts later) ∙ sym (sum_by-cons (λ n. n) (count_of piece) (map count_of later))

  -- a chain keeps the number of its functions
  pub count_stays : (pieces : List (Piece F)) (ps : List Packet) → sum_by count_of (pieces_after b pieces ps) ≡ sum_by count_of pieces
  count_stays pieces ps = sum_of_counts (pieces_after b pieces ps) ∙ ap (sum_by (λ n. n)) (counts_stay pieces ps) ∙ sym (sum_of_counts pieces)

  -- the same for one packet
  pub way_keeps_count : (time position : ℕ) (pieces : List (Piece F)) (frame : List ℕ) → sum_by count_of (long b time position pieces frame).pieces ≡ sum_by count_of pieces
  way_keeps_count time position pieces frame =
      sum_of_counts (long b time position pieces frame).pieces
      ∙ ap (sum_by (λ n. n)) (way_keeps b count_of (record { walks = λ stages time position functions frame. as_many_functions b time position functions frame }) time position pieces frame)
      ∙ sym (sum_of_counts pieces)

  map_append : (xs ys : List F) → map b.profile (xs ++ ys) ≡ map b.profile xs ++ map b.profile ys
  map_append [] ys = refl
  map_append (x ∷ xs) ys = ap (λ l. b.profile x ∷ l) (map_append xs ys)

  profiles_in : (pieces : List (Piece F)) → map b.profile (functions_in pieces) ≡ functions_in (map (kind_of b) pieces)
  profiles_in [] = refl
  profiles_in (Graph stages functions ∷ later) = map_append functions (functions_in later) ∙ ap (λ l. map b.profile functions ++ l) (profiles_in later)
  profiles_in (Whole rewritten ∷ later) = profiles_in later

  -- and the profiles of all functions stay
  pub all_profiles_stay : (pieces : List (Piece F)) (ps : List Packet) → KeepsProfile b → map b.profile (functions_in (pieces_after b pieces ps)) ≡ map b.profile (functions_in pieces)
  all_profiles_stay pieces ps keeps = profiles_in (pieces_after b pieces ps) ∙ ap functions_in (kinds_stay pieces ps keeps) ∙ sym (profiles_in pieces)
