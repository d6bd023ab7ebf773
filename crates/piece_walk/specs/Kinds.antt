-- For proofs: what no packet changes in a piece, and the greatest length of a frame.
use Rattle.std.specs.Prelude.{ℕ, ◌≤◌, ◌+◌, List, length, map, Option, Some, None}
use Rattle.action_profile.specs.declared.rights.Profile.{Profile}
use Rattle.graph_compile.specs.declared.graph.Stage.{Stage}
use Rattle.chain_walk.specs.Step.{Behaviour}
use Rattle.chain_walk.specs.declared.walk.Fate.{Fate}
use Rattle.chain_walk.specs.declared.walk.Fate.TheVariants.{Out, Gone}
use Rattle.piece_walk.specs.Pieces.{Piece, Graph, Whole}

-- the stages of a piece that runs in a graph
abbrev pub stages_of : {F : Type 0} → Piece F → Option (List Stage)
stages_of (Graph stages functions) = Some stages
stages_of (Whole rewritten) = None

-- a piece of which only the profiles of its functions are known
abbrev pub kind_of : {F : Type 0} → Behaviour F → Piece F → Piece Profile
kind_of b (Graph stages functions) = Graph stages (map b.profile functions)
kind_of b (Whole rewritten) = Whole rewritten

-- a function that rewrites frames whole makes each at most 20 bytes longer
abbrev pub GrowsLittle : {F : Type 0} → Piece F → Type 0
GrowsLittle (Graph stages functions) = Unit {0}
GrowsLittle (Whole rewritten) = (frame : List ℕ) → length (rewritten frame) ≤ length frame + 20

-- a frame that goes out has at most this number of bytes
abbrev pub IsNoLonger : ℕ → Fate → Type 0
IsNoLonger most (Out frame) = length frame ≤ most
IsNoLonger most (Gone position) = Unit {0}
