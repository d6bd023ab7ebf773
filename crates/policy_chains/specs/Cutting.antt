-- For proofs: a chain that is being cut into pieces, from its first function on.
use Rattle.std.specs.Prelude.{◌≡◌, ℕ, List, [], ◌∷◌, ◌++◌, slice_get}
use Rattle.std.specs.Option.{option_map_or}
use Rattle.policy_text.specs.declared.policy.FunctionDecl.{FunctionDecl}
use Rattle.net_functions.specs.Builds.{function_of}
use Rattle.net_functions.specs.declared.making.Made.{Made}
use Rattle.net_functions.specs.declared.making.Made.TheVariants as made
use Rattle.nf_tunnel.specs.Tunnels.{encapsulated, decapsulated}
use Rattle.piece_walk.specs.Pieces.{Piece, Graph, Whole}
use Rattle.policy_chains.specs.Parts.{parts_of}
use Rattle.policy_chains.specs.Services.{compiled}
use Rattle.policy_chains.specs.declared.cutting.Cutting.{Cutting}
use Rattle.policy_chains.specs.declared.named.NamedFunction.{NamedFunction}

-- the piece of functions in a row, if there is one
abbrev pub closed : List NamedFunction → List (Piece NamedFunction)
closed [] = []
closed (f ∷ functions) = compiled (f ∷ functions) ∷ []

-- a function in front of pieces: it is in the first one, if that has a graph
abbrev pub with_first : NamedFunction → List (Piece NamedFunction) → List (Piece NamedFunction)
with_first f (Graph stages functions ∷ later) = compiled (f ∷ functions) ∷ later
with_first f pieces = compiled (f ∷ []) ∷ pieces

-- the same for a function that was made: one that rewrites frames whole is a piece by itself
abbrev pub with_made : List ℕ → Made → List (Piece NamedFunction) → List (Piece NamedFunction)
with_made name (made.Function f) later = with_first (record { name = name; function = f }) later
with_made name (made.Encap tunnel) later = Whole (encapsulated tunnel) ∷ later
with_made name (made.Decap tunnel) later = Whole (decapsulated tunnel) ∷ later

-- the pieces of a chain, one function after another
unfoldable pub joined : List FunctionDecl → List (Piece NamedFunction)
joined [] = []
joined (decl ∷ later) = with_made decl.name (function_of decl) (joined later)

-- functions in front of pieces: they are in the first one, if that has a graph
unfoldable pub with_all : List NamedFunction → List (Piece NamedFunction) → List (Piece NamedFunction)
with_all [] later = later
with_all (f ∷ functions) later = with_first f (with_all functions later)

-- the chain that is cut so far, with the pieces of what comes after
abbrev pub cut_with : Cutting → List (Piece NamedFunction) → List (Piece NamedFunction)
cut_with cutting later = parts_of cutting.parts.items ++ with_all cutting.waiting.items later

-- The chain has one more function, which is before what comes after.
pub record GoesOn (old new : Cutting) (with_one : List (Piece NamedFunction) → List (Piece NamedFunction)) : Type 0 where
  pub joined : (later : List (Piece NamedFunction)) → cut_with new later ≡ cut_with old (with_one later)

-- the function that is declared at a place, before the pieces of those after it
abbrev pub with_declared : List FunctionDecl → ℕ → List (Piece NamedFunction) → List (Piece NamedFunction)
with_declared declared place later = option_map_or (λ decl. with_made decl.name (function_of decl) later) (slice_get declared place) later
