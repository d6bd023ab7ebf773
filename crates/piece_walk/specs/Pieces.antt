-- Believed: the walk of a packet through a chain with functions that rewrite it whole. The chain is cut before and
-- after each of them. The functions between two cuts are a piece. They walk one after another, and at the piece's end
-- the checksums follow what it changed.
use Rattle.std.specs.Prelude.{ℕ, ◌+◌, List, [], ◌∷◌, length}
use Rattle.std.specs.List.{flat_map}
use Rattle.packet_fields.specs.Checksums.{sealed}
use Rattle.graph_compile.specs.declared.graph.Stage.{Stage}
use Rattle.chain_walk.specs.Step.{Behaviour}
use Rattle.chain_walk.specs.Walk.{walk}
use Rattle.chain_walk.specs.declared.walk.Fate.{Fate}
use Rattle.chain_walk.specs.declared.walk.Fate.TheVariants.{Out, Gone}

-- A piece of a chain: functions in their order, with the stages of the graph in which they run (no result depends on
-- them); or one function that rewrites a frame whole and keeps no state.
pub data Piece (F : Type 0) : Type 0 where
  Graph : (stages : List Stage) (functions : List F) → Piece F
  Whole : (rewritten : List ℕ → List ℕ) → Piece F

-- the functions of a piece that see a packet's fields
abbrev pub functions_of : {F : Type 0} → Piece F → List F
functions_of (Graph stages functions) = functions
functions_of (Whole rewritten) = []

-- those of all pieces, in chain order
abbrev pub functions_in : {F : Type 0} → List (Piece F) → List F
functions_in pieces = flat_map functions_of pieces

-- the number of functions of a piece
abbrev pub count_of : {F : Type 0} → Piece F → ℕ
count_of (Graph stages functions) = length functions
count_of (Whole rewritten) = 1

-- Where a packet ended, and the state in which it left the pieces.
pub record Went (F : Type 0) : Type 0 where
  pub pieces : List (Piece F)
  pub fate : Fate

-- the first piece is left in this state, and the rest of the walk was this
abbrev pub then_went : {F : Type 0} → Piece F → Went F → Went F
then_went piece rest = record { pieces = piece ∷ rest.pieces; fate = rest.fate }

-- a packet that passed a piece goes on; the pieces after the one that dropped it never see it
abbrev pub went_on : {F : Type 0} → Piece F → List (Piece F) → (List ℕ → Went F) → Fate → Went F
went_on piece later on (Out frame) = then_went piece (on frame)
went_on piece later on (Gone position) = record { pieces = piece ∷ later; fate = Gone position }

-- The walk through the pieces, whose first function has this position in the chain: the functions of a piece walk, and
-- the frame that it passes on is sealed against the frame that entered.
unfoldable pub long : {F : Type 0} → Behaviour F → ℕ → ℕ → List (Piece F) → List ℕ → Went F
long b time position [] frame = record { pieces = []; fate = Out frame }
long b time position (Graph stages functions ∷ later) frame =
    went_on (Graph stages (walk b time position functions frame).functions) later
    (λ left. long b time (position + length functions) later (sealed frame left)) (walk b time position functions frame).fate
long b time position (Whole rewritten ∷ later) frame = then_went (Whole rewritten) (long b time (position + 1) later (rewritten frame))
