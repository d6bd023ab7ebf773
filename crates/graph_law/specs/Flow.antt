-- For proofs: a packet goes through the stages of a graph: each branch has a version, and the versions are merged.
use Rattle.std.specs.Prelude.{List, [], ◌∷◌}
use Rattle.action_profile.specs.declared.parts.Touch.{Touch}
use Rattle.chain_walk.specs.Shown.{Values}
use Rattle.chain_walk.specs.Step.{Behaviour}
use Rattle.chain_walk.specs.FieldWalk.{End, End.Out, End.Gone, Ended}
use Rattle.chain_walk.specs.declared.fixed.Fixed.{Fixed}
use Rattle.graph_compile.specs.declared.graph.Branch.{Branch}
use Rattle.graph_compile.specs.declared.graph.Stage.{Stage}
use Rattle.graph_law.specs.Branches.{BranchEnd, in_turn, dealt}
use Rattle.graph_law.specs.Merging.{merged}

-- The functions of a chain as the branches of a stage leave them, and what leaves each branch.
pub record Branched (F : Type 0) : Type 0 where
  pub functions : List F
  pub arrivals : List BranchEnd

abbrev pub then_branched : {F : Type 0} → BranchEnd → Branched F → Branched F
then_branched a rest = record { functions = rest.functions; arrivals = a ∷ rest.arrivals }

-- the branches of a stage, one after another, each on the version that it gets
unfoldable pub branched : {F : Type 0} → Behaviour F → Fixed → List Branch → List Touch → Values → List F → Branched F
branched b fixed (x ∷ branches) (t ∷ touches) values fs =
    then_branched (in_turn b fixed x.positions fs (dealt t values)).arrival
    (branched b fixed branches touches values (in_turn b fixed x.positions fs (dealt t values)).functions)
branched b fixed [] touches values fs = record { functions = fs; arrivals = [] }
branched b fixed (x ∷ branches) [] values fs = record { functions = fs; arrivals = [] }

-- a stage: its branches, and what becomes of the packet after them
abbrev pub staged : {F : Type 0} → Behaviour F → Fixed → Stage → Values → List F → Ended F
staged b fixed stage values fs = record {
  functions = (branched b fixed stage.branches stage.parts.touches values fs).functions;
  end = merged values (branched b fixed stage.branches stage.parts.touches values fs).arrivals;
}

-- what follows a stage, if the packet is still there
unfoldable pub then_flow : {F : Type 0} → List F → End → (Values → List F → Ended F) → Ended F
then_flow fs (Gone p) on = record { functions = fs; end = Gone p }
then_flow fs (Out values) on = on values fs

-- the stages from some stage on, one after another
unfoldable pub flow : {F : Type 0} → Behaviour F → Fixed → List Stage → Values → List F → Ended F
flow b fixed [] values fs = record { functions = fs; end = Out values }
flow b fixed (s ∷ stages) values fs = then_flow (staged b fixed s values fs).functions (staged b fixed s values fs).end (flow b fixed stages)
