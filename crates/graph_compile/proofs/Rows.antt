-- Rows of the rule, computed by the definitions.
use Rattle.std.proofs.Common.{◌≡◌, ℕ, refl, List, [], ◌∷◌, Some, None}
use Rattle.std.specs.Prelude.{map}
use Rattle.action_profile.specs.FieldSets.{all_fields}
use Rattle.action_profile.specs.Profiles.{profile_of}
use Rattle.action_profile.specs.declared.kind.Kind.TheVariants.{Firewall, Signature, Nat, Balancer, Monitor, Limiter, Marker, Tagger}
use Rattle.action_profile.specs.declared.parts.Mode.{Mode}
use Rattle.action_profile.specs.declared.parts.Mode.TheVariants.{Shared, Moved, Copied}
use Rattle.action_profile.specs.declared.rights.Profile.{Profile}
use Rattle.dependency_table.specs.Actions.{all_actions, actions}
use Rattle.dependency_table.specs.Table.{pairs, first_forbidden, is_copied, copied, pair_of}
use Rattle.action_profile.specs.Modes.{mode_of, copies}
use Rattle.graph_compile.specs.Parts.{branch_reads, branch_writes, touch_of, stage_parts}
use Rattle.graph_compile.specs.Stages.{is_forbidden, holds_back, placed, graph_of}
use Rattle.graph_compile.specs.declared.graph.Branch.{Branch}
use Rattle.graph_compile.specs.declared.graph.Stage.{Stage}

abbrev positions : Branch → List ℕ
positions b = b.positions

abbrev branches_of : Stage → List (List ℕ)
branches_of s = map positions s.branches

-- the positions of each branch of each stage
abbrev shape : List Profile → List (List (List ℕ))
shape chain = map branches_of (graph_of chain).stages

abbrev modes_of_stage : Stage → List Mode
modes_of_stage s = s.parts.modes

-- the modes of the fields in each stage, in the fields' order
abbrev modes : List Profile → List (List Mode)
modes chain = map modes_of_stage (graph_of chain).stages

abbrev copies_of_stage : Stage → List ℕ
copies_of_stage s = map (copies s.parts) all_fields

-- the copies of the fields in each stage
abbrev copied_in : List Profile → List (List ℕ)
copied_in chain = map copies_of_stage (graph_of chain).stages

-- a firewall and a signature may drop a packet; a translator after them keeps a state of it
abbrev filtered : List Profile
filtered = profile_of Firewall ∷ profile_of Signature ∷ profile_of Nat ∷ []

filtered_stages : shape filtered ≡ ((1 ∷ []) ∷ (2 ∷ []) ∷ []) ∷ ((3 ∷ []) ∷ []) ∷ []
unfolding graph_of placed holds_back is_forbidden pair_of first_forbidden pairs actions all_actions copied is_copied
filtered_stages = refl

filtered_modes : modes filtered ≡ (Shared ∷ Shared ∷ Shared ∷ Shared ∷ Shared ∷ Shared ∷ Shared ∷ Shared ∷ Shared ∷ Shared ∷ [])
    ∷ (Shared ∷ Shared ∷ Shared ∷ Shared ∷ Shared ∷ Moved 0 ∷ Moved 0 ∷ Moved 0 ∷ Moved 0 ∷ Shared ∷ []) ∷ []
unfolding graph_of placed holds_back is_forbidden pair_of first_forbidden pairs actions all_actions copied is_copied stage_parts touch_of branch_reads branch_writes mode_of
filtered_modes = refl

-- a tagger, a limiter, a marker and a translator, which comes after the limiter alone
abbrev tagged : List Profile
tagged = profile_of Tagger ∷ profile_of Limiter ∷ profile_of Marker ∷ profile_of Nat ∷ []

tagged_stages : shape tagged ≡ ((1 ∷ []) ∷ (2 ∷ 4 ∷ []) ∷ (3 ∷ []) ∷ []) ∷ []
unfolding graph_of placed holds_back is_forbidden pair_of first_forbidden pairs actions all_actions copied is_copied
tagged_stages = refl

tagged_modes : modes tagged ≡ (Shared ∷ Shared ∷ Moved 0 ∷ Moved 2 ∷ Shared ∷ Copied None ∷ Copied None ∷ Copied None ∷ Copied None ∷ Shared ∷ []) ∷ []
unfolding graph_of placed holds_back is_forbidden pair_of first_forbidden pairs actions all_actions copied is_copied stage_parts touch_of branch_reads branch_writes mode_of
tagged_modes = refl

tagged_copies : copied_in tagged ≡ (0 ∷ 0 ∷ 0 ∷ 0 ∷ 0 ∷ 1 ∷ 1 ∷ 1 ∷ 1 ∷ 0 ∷ []) ∷ []
unfolding graph_of placed holds_back is_forbidden pair_of first_forbidden pairs actions all_actions copied is_copied stage_parts touch_of branch_reads branch_writes mode_of copies
tagged_copies = refl

-- a monitor beside a firewall and a balancer
abbrev balanced : List Profile
balanced = profile_of Monitor ∷ profile_of Firewall ∷ profile_of Balancer ∷ []

balanced_stages : shape balanced ≡ ((1 ∷ []) ∷ (2 ∷ 3 ∷ []) ∷ []) ∷ []
unfolding graph_of placed holds_back is_forbidden pair_of first_forbidden pairs actions all_actions copied is_copied
balanced_stages = refl

balanced_copies : copied_in balanced ≡ (0 ∷ 0 ∷ 0 ∷ 0 ∷ 0 ∷ 0 ∷ 1 ∷ 0 ∷ 0 ∷ 0 ∷ []) ∷ []
unfolding graph_of placed holds_back is_forbidden pair_of first_forbidden pairs actions all_actions copied is_copied stage_parts touch_of branch_reads branch_writes mode_of copies
balanced_copies = refl

-- two markers: the first has the original
abbrev marked_twice : List Profile
marked_twice = profile_of Marker ∷ profile_of Marker ∷ []

marked_modes : modes marked_twice ≡ (Shared ∷ Shared ∷ Shared ∷ Copied (Some 0) ∷ Shared ∷ Shared ∷ Shared ∷ Shared ∷ Shared ∷ Shared ∷ []) ∷ []
unfolding graph_of placed holds_back is_forbidden pair_of first_forbidden pairs actions all_actions copied is_copied stage_parts touch_of branch_reads branch_writes mode_of
marked_modes = refl

marked_copies : copied_in marked_twice ≡ (0 ∷ 0 ∷ 0 ∷ 1 ∷ 0 ∷ 0 ∷ 0 ∷ 0 ∷ 0 ∷ 0 ∷ []) ∷ []
unfolding graph_of placed holds_back is_forbidden pair_of first_forbidden pairs actions all_actions copied is_copied stage_parts touch_of branch_reads branch_writes mode_of copies
marked_copies = refl

-- no function, no stage
empty_chain : shape [] ≡ []
unfolding graph_of placed
empty_chain = refl
