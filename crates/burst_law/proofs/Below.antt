-- The laws of graphs for functions of one type.
use Rattle.std.proofs.Common.{◌≡◌, ℕ, List, length, map}
use Rattle.std.specs.Prelude.{is_some, IsTrue}
use Rattle.std.specs.List.{list_any}
use Rattle.packet_fields.specs.declared.field.Field.{Field}
use Rattle.action_profile.specs.declared.parts.Touch.{Touch}
use Rattle.chain_walk.specs.Shown.{Values}
use Rattle.chain_walk.specs.Step.{Behaviour}
use Rattle.chain_walk.specs.FieldWalk.{End.Out, End.Gone, Ended, walk_fields}
use Rattle.chain_walk.specs.Counting.{IsQuiet}
use Rattle.chain_walk.specs.Laws.{KeepsProfile}
use Rattle.chain_walk.specs.declared.fixed.Fixed.{Fixed}
use Rattle.graph_compile.specs.Facts.{IsLawful, IsFull}
use Rattle.graph_compile.specs.Positions.{stands}
use Rattle.graph_compile.specs.declared.graph.Branch.{Branch}
use Rattle.graph_compile.specs.declared.graph.Graph.{Graph}
use Rattle.graph_compile.specs.declared.graph.Stage.{Stage}
use Rattle.graph_law.specs.Branches.{BranchEnd, in_turn}
use Rattle.graph_law.specs.Flow.{branched, staged, flow}

pub record Below (F : Type 0) : Type 0 where
  pub branch_length : (b : Behaviour F) (fixed : Fixed) (positions : List ℕ) (functions : List F) (arrival : BranchEnd) → length (in_turn b fixed positions functions arrival).functions ≡ length functions
  pub stage_length : (b : Behaviour F) (fixed : Fixed) (branches : List Branch) (touches : List Touch) (functions : List F) (values : Values) → length (branched b fixed branches touches values functions).functions ≡ length functions
  pub profiles : (b : Behaviour F) (fixed : Fixed) (stages : List Stage) (functions : List F) (values : Values) → KeepsProfile b → map b.profile (flow b fixed stages values functions).functions ≡ map b.profile functions
  pub chain : (b : Behaviour F) (fixed : Fixed) (graph : Graph) (functions : List F) (values : Values) → KeepsProfile b → IsQuiet b → IsLawful graph (map b.profile functions) → IsFull graph →
      ◌≡◌ {A = Ended F} (flow b fixed graph.stages values functions) (walk_fields b fixed 1 functions values)
  pub fields : (b : Behaviour F) (fixed : Fixed) (stage : Stage) (functions : List F) (values after : Values) (f : Field) → KeepsProfile b → (staged b fixed stage values functions).end ≡ Out after → is_some (after f) ≡ is_some (values f)
  pub dropped_in : (b : Behaviour F) (fixed : Fixed) (stage : Stage) (functions : List F) (values : Values) (position : ℕ) → (staged b fixed stage values functions).end ≡ Gone position → IsTrue (stands position stage)
  pub dropped_behind : (b : Behaviour F) (fixed : Fixed) (stages : List Stage) (functions : List F) (values : Values) (position : ℕ) → (flow b fixed stages values functions).end ≡ Gone position → IsTrue (list_any (stands position) stages)
