-- Believed: the chains of a policy, each with its order, as a graph text refers to them.
use Rattle.std.specs.Prelude.{ℕ, ◌+◌, ◌-◌, List, [], ◌∷◌, Bool, ◌==◌, map, position, slice_get, Option, Some, option_and_then}
use Rattle.std.specs.List.{list_any}
use Rattle.std.specs.Option.{option_map, option_map_or}
use Rattle.std.specs.Str.{bytes_eq}
use Rattle.action_profile.specs.Profiles.{plain, profile_of}
use Rattle.action_profile.specs.declared.rights.Profile.{Profile}
use Rattle.policy_text.specs.Grammar.{is_function}
use Rattle.policy_text.specs.Lines.{PlacedWord}
use Rattle.policy_text.specs.declared.policy.ChainPolicy.{ChainPolicy}
use Rattle.policy_text.specs.declared.policy.FunctionDecl.{FunctionDecl}
use Rattle.policy_check.specs.declared.fault.Order.{Order}

-- the chain of this name, counted from 0 as declared
abbrev pub chain_named : List ChainPolicy → List ℕ → Option ℕ
chain_named chains name = position (λ c. bytes_eq c.name name) chains

-- the functions of the chain at a place, as declared, and in the chain's order
abbrev pub functions_at : List ChainPolicy → ℕ → List FunctionDecl
functions_at chains place = option_map_or (λ c. c.functions) (slice_get chains place) []

abbrev pub order_at : List Order → ℕ → List ℕ
order_at orders place = option_map_or (λ o. o.positions) (slice_get orders place) []

-- the profiles of functions, in this order
abbrev pub profile_in : List FunctionDecl → ℕ → Profile
profile_in functions place = option_map_or (λ f. profile_of f.kind) (slice_get functions place) (plain [] [])

abbrev pub profiles_in : List FunctionDecl → List ℕ → List Profile
profiles_in functions order = map (profile_in functions) order

-- some function works on the frame as a whole
abbrev pub has_whole : List FunctionDecl → Bool
has_whole functions = list_any (λ f. (profile_of f.kind).whole) functions

-- the position in the chain, counted from 1, of the function at a place, and of the one with a name
abbrev pub position_of : List ℕ → ℕ → Option ℕ
position_of order place = option_map (λ k. k + 1) (position (λ f. f == place) order)

abbrev pub position_named : List FunctionDecl → List ℕ → List ℕ → Option ℕ
position_named functions order name = option_and_then (position_of order) (position (is_function name) functions)

-- the positions of the functions that these words name
abbrev pub positions_named : List FunctionDecl → List ℕ → List PlacedWord → Option (List ℕ)
positions_named functions order [] = Some []
positions_named functions order (word ∷ words) =
    option_and_then (λ p. option_map (λ ps. p ∷ ps) (positions_named functions order words)) (position_named functions order word.text)

-- the function at a position, counted from 0 as declared
abbrev pub declared : List ℕ → ℕ → ℕ
declared order position = option_map_or (λ f. f) (slice_get order (position - 1)) 0
