-- For proofs: the profiles of the functions of a chain of one piece.
use Rattle.std.specs.Prelude.{◌≡◌, List, [], ◌∷◌, map}
use Rattle.action_profile.specs.declared.rights.Profile.{Profile}
use Rattle.piece_walk.specs.Pieces.{Piece, Graph, Whole}
use Rattle.policy_chains.specs.NamedFunctions.{named_behaviour}
use Rattle.policy_chains.specs.declared.named.NamedFunction.{NamedFunction}

-- if pieces are one with a graph, its functions have these profiles
abbrev pub Profiled : List Profile → List (Piece NamedFunction) → Type 0
Profiled profiles [] = profiles ≡ []
Profiled profiles (Graph stages functions ∷ []) = map named_behaviour.profile functions ≡ profiles
Profiled profiles (Whole rewritten ∷ []) = Unit {0}
Profiled profiles (one ∷ two ∷ later) = Unit {0}
