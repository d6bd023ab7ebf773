-- For proofs: one packet's notes, each with its function's position, settled among all functions of the chain.
use Rattle.std.specs.Prelude.{ℕ, ◌-◌, List, [], ◌∷◌, ◌++◌, Bool, if◌then◌else◌, set, slice_get, Option, Some, None}
use Rattle.chain_walk.specs.Notes.{Notes}
use Rattle.graph_compile.specs.declared.graph.Branch.{Branch}
use Rattle.graph_compile.specs.declared.graph.Stage.{Stage}

-- A note, and the position of the function that made it, which counts from 1.
pub record PlacedNote (N : Type 0) : Type 0 where
  pub position : ℕ
  pub note : N

-- the notes of a branch, of functions at these positions
unfoldable pub placed : {N : Type 0} → List ℕ → List (Option N) → List (PlacedNote N)
placed [] made = []
placed (q ∷ qs) [] = []
placed (q ∷ qs) (None ∷ made) = placed qs made
placed (q ∷ qs) (Some n ∷ made) = record { position = q; note = n } ∷ placed qs made

-- branch by branch
unfoldable pub placed_in : {N : Type 0} → List Branch → List (List (Option N)) → List (PlacedNote N)
placed_in [] rows = []
placed_in (x ∷ branches) [] = []
placed_in (x ∷ branches) (row ∷ rows) = placed x.positions row ++ placed_in branches rows

-- stage by stage
unfoldable pub placed_by : {N : Type 0} → List Stage → List (List (List (Option N))) → List (PlacedNote N)
placed_by [] rows = []
placed_by (s ∷ stages) [] = []
placed_by (s ∷ stages) (row ∷ rows) = placed_in s.branches row ++ placed_by stages rows

-- the function at the note's position, if there is one, settles it
unfoldable pub settled_there : {F N : Type 0} → Notes F N → PlacedNote N → Option F → List F → List F
settled_there notes o None fs = fs
settled_there notes o (Some f) fs = set fs (o.position - 1) (notes.settle f o.note)

-- a note is skipped if the packet was dropped before its position, and else settled
abbrev pub settled_where : {F N : Type 0} → Notes F N → (ℕ → Bool) → List F → PlacedNote N → List F
settled_where notes gone fs o = if gone o.position then fs else settled_there notes o (slice_get fs (o.position - 1)) fs

-- all these notes, one after another
unfoldable pub settled_placed : {F N : Type 0} → Notes F N → (ℕ → Bool) → List F → List (PlacedNote N) → List F
settled_placed notes gone fs [] = fs
settled_placed notes gone fs (o ∷ listed) = settled_placed notes gone (settled_where notes gone fs o) listed
