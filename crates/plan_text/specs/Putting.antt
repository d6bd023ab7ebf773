-- For proofs: the stages of a chain are put piece by piece, or those of a graph that was written for it are put.
use Rattle.std.specs.Prelude.{Option, Some, None, ℕ, suc, ◌≡◌, ◌<◌, ◌≤◌, ◌+◌, List, ◌∷◌, ◌++◌, length, take, drop, All}
use Rattle.policy_text.specs.declared.policy.FunctionDecl.{FunctionDecl}
use Rattle.graph_compile.specs.Cutting.{cut}
use Rattle.graph_compile.specs.Facts.{IsFull}
use Rattle.graph_compile.specs.Lawful.{IsStaged}
use Rattle.graph_compile.specs.declared.graph.Graph.{Graph}
use Rattle.plan_text.specs.Plan.{is_whole_at, pieces_text, profiles_in}

-- this number of functions is the first piece of a chain
pub record IsFirstPiece (functions : List FunctionDecl) (order : List ℕ) (count : ℕ) : Type 0 where
  pub some : 0 < count
  pub inside : count ≤ length order
  pub first : cut (is_whole_at functions) order ≡ take count order ∷ cut (is_whole_at functions) (drop count order)

-- the pieces of the rest are still to be put, the next stage with this number
pub record IsPut (functions : List FunctionDecl) (order rest : List ℕ) (number : ℕ) (old out : List ℕ) : Type 0 where
  pub due : out ++ pieces_text functions number (cut (is_whole_at functions) rest) ≡ old ++ pieces_text functions 1 (cut (is_whole_at functions) order)
  pub inside : All (λ p. p < length functions) rest
  pub few : number + length rest ≤ 65
  pub counted : 0 < number

-- a graph written for a chain: its stages follow each other through the chain, and no stage and no branch is empty
abbrev pub IsShownFor : List FunctionDecl → List ℕ → Option Graph → Type 0
IsShownFor functions order None = Unit {0}
IsShownFor functions order (Some graph) = IsFull graph × IsStaged (profiles_in functions order) 1 graph.stages (suc (length (profiles_in functions order)))
