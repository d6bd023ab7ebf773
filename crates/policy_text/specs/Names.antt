-- Believed: the names of the functions of a chain.
use Rattle.std.specs.Prelude.{ℕ, List, [], slice_get, map}
use Rattle.std.specs.Option.{option_map_or}
use Rattle.policy_text.specs.declared.policy.FunctionDecl.{FunctionDecl}

-- the name of the function at this place of a chain, counted from 0 as declared
abbrev pub name_at : List FunctionDecl → ℕ → List ℕ
name_at functions place = option_map_or (λ f. f.name) (slice_get functions place) []

-- the names of the functions at these places
abbrev pub names_at : List FunctionDecl → List ℕ → List (List ℕ)
names_at functions places = map (name_at functions) places
