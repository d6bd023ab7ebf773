-- Believed: the plan of a chain, as text.
use Rattle.std.specs.Prelude.{ℕ, suc, ◌+◌, ◌-◌, Bool, ◌||◌, List, [], ◌∷◌, ◌++◌, length, codes, map, slice_get, slice_index_or, if◌then◌else◌, Option, Some, None}
use Rattle.std.specs.Fmt.{decimal}
use Rattle.std.specs.List.{flat_map, list_any}
use Rattle.std.specs.Option.{option_map_or}
use Rattle.packet_fields.specs.Fields.{number_of, name_of}
use Rattle.packet_fields.specs.declared.field.Field.{Field}
use Rattle.action_profile.specs.FieldSets.{all_fields}
use Rattle.action_profile.specs.Profiles.{plain, profile_of}
use Rattle.action_profile.specs.declared.parts.Mode.{Mode}
use Rattle.action_profile.specs.declared.parts.Mode.TheVariants.{Shared, Moved, Copied}
use Rattle.action_profile.specs.declared.parts.StageParts.{StageParts}
use Rattle.action_profile.specs.declared.rights.Profile.{Profile}
use Rattle.action_profile.specs.Modes.{has_touch, copies}
use Rattle.graph_compile.specs.Cutting.{cut}
use Rattle.graph_compile.specs.Stages.{graph_of}
use Rattle.graph_compile.specs.declared.graph.Branch.{Branch}
use Rattle.graph_compile.specs.declared.graph.Graph.{Graph}
use Rattle.graph_compile.specs.declared.graph.Stage.{Stage}
use Rattle.policy_text.specs.declared.policy.ChainPolicy.{ChainPolicy}
use Rattle.policy_text.specs.declared.policy.FunctionDecl.{FunctionDecl}
use Rattle.policy_text.specs.Names.{name_at, names_at}
use Rattle.text_lines.specs.Texts.{line_of, spaced}

-- the profile of the function at a place, counted from 0 as declared
abbrev pub profile_in : List FunctionDecl → ℕ → Profile
profile_in functions place = option_map_or (λ f. profile_of f.kind) (slice_get functions place) (plain [] [])

-- the profiles of the functions, in chain order
abbrev pub profiles_in : List FunctionDecl → List ℕ → List Profile
profiles_in functions order = map (profile_in functions) order

-- the function at a place rewrites packets whole: the chain is cut before and after it
abbrev pub is_whole_at : List FunctionDecl → ℕ → Bool
is_whole_at functions place = (profile_in functions place).whole

-- the stages of a piece, as if it were a chain
abbrev pub stages_of : List FunctionDecl → List ℕ → List Stage
stages_of functions piece = (graph_of (profiles_in functions piece)).stages

-- texts of numbered things, the first with this number
abbrev pub numbered : {X : Type 0} → (ℕ → X → List ℕ) → ℕ → List X → List ℕ
numbered text number [] = []
numbered text number (x ∷ xs) = text number x ++ numbered text (suc number) xs

-- the name of the function at a position of the chain, counted from 1
abbrev pub name_in : List FunctionDecl → List ℕ → ℕ → List ℕ
name_in functions order position = option_map_or (name_at functions) (slice_get order (position - 1)) []

-- `branch J F G ..`
unfoldable pub branch_text : List FunctionDecl → List ℕ → ℕ → Branch → List ℕ
branch_text functions order number branch =
    line_of (codes "branch " ∷ decimal number ∷ spaced (map (name_in functions order) branch.positions) ∷ [])

-- how a field is passed on: shared, moved to a branch, counted from 1, or copied this number of times
abbrev pub mode_text : Mode → ℕ → List ℕ
mode_text Shared count = codes " shared"
mode_text (Moved branch) count = codes " moved " ++ decimal (branch + 1)
mode_text (Copied original) count = codes " copied " ++ decimal count

-- `part FIELD ..`
unfoldable pub part_line : StageParts → Field → List ℕ
part_line parts f = line_of (codes "part " ∷ name_of f ∷ mode_text (slice_index_or parts.modes (number_of f) Shared) (copies parts f) ∷ [])

-- only for a field that some branch touches
abbrev pub part_text : StageParts → Field → List ℕ
part_text parts f = if list_any (has_touch f) parts.touches then part_line parts f else []

-- `stage K`, its branches, and the parts of its fields, in the fields' order
unfoldable pub stage_text : List FunctionDecl → List ℕ → ℕ → Stage → List ℕ
stage_text functions order number stage =
    line_of (codes "stage " ∷ decimal number ∷ []) ++ numbered (branch_text functions order) 1 stage.branches ++ flat_map (part_text stage.parts) all_fields

-- the stages of pieces, numbered through all of them, the first with this number
unfoldable pub pieces_text : List FunctionDecl → ℕ → List (List ℕ) → List ℕ
pieces_text functions number [] = []
pieces_text functions number (piece ∷ later) =
    numbered (stage_text functions piece) number (stages_of functions piece) ++ pieces_text functions (number + length (stages_of functions piece)) later

-- the stages of a chain: those of the graph that was written for it, or else those of its pieces
abbrev pub stages_text : List FunctionDecl → List ℕ → Option Graph → List ℕ
stages_text functions order None = pieces_text functions 1 (cut (is_whole_at functions) order)
stages_text functions order (Some graph) = numbered (stage_text functions order) 1 graph.stages

-- the line of a chain, the line of its functions in chain order, and its stages
unfoldable pub chain_plan : ChainPolicy → List ℕ → Option Graph → List ℕ
chain_plan chain order graph =
    line_of (codes "chain " ∷ chain.name ∷ []) ++ line_of (codes "order" ∷ spaced (names_at chain.functions order) ∷ []) ++ stages_text chain.functions order graph
