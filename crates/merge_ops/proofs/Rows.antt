-- Worked rows, computed by the definitions.
use Rattle.std.proofs.Common.{◌≡◌, ℕ, List, [], ◌∷◌, refl, Some, None}
use Rattle.std.specs.Prelude.{if◌then◌else◌}
use Rattle.packet_fields.specs.declared.field.Field.{Field}
use Rattle.packet_fields.specs.declared.field.Field.TheVariants.{Tag, Tos}
use Rattle.action_profile.specs.Modes.{mode_of, modes_of}
use Rattle.action_profile.specs.declared.parts.Mode.TheVariants.{Shared, Copied}
use Rattle.action_profile.specs.declared.parts.Touch.{Touch}
use Rattle.packet_version.specs.Splitting.{PlainApart}
use Rattle.merge_ops.specs.Taking.{merged_parts}
use Rattle.packet_version.specs.Parts.{values_of, as_list, is_field}
use Rattle.chain_walk.specs.declared.fixed.Fixed.{Fixed}
use Rattle.merge_ops.specs.Merging.{decision_of, last_writer}
use Rattle.merge_ops.specs.declared.arrival.Arrival.{Arrival}
use Rattle.merge_ops.specs.declared.arrival.Arrival.TheVariants.{Version, Nil, Short}
use Rattle.merge_ops.specs.declared.decision.MergeOp.TheVariants.{Keep, Modify, SetTags}
use Rattle.merge_ops.specs.declared.decision.Decision.TheVariants.{Take, Gone, Short as Halted}

-- the fixed values don't matter
abbrev fixed : Fixed
fixed = record { time = 7; ether_type = Some 0x0800; proto = Some 17; ip_len = Some 28; tcp_flags = None }

-- a branch that has this one field, last written by this function
abbrev pub branch_with : Field → List ℕ → ℕ → Arrival
branch_with f bytes writer = Version (record {
  parts = as_list (λ g. if is_field f g then Some (record { bytes = bytes; writer = writer; room = 4 }) else None);
  touch = record { reads = record { 0 = 0 }; writes = record { 0 = 8 } };
  fixed = fixed;
  kept = None;
})

-- two branches write the type of service: the later in the chain prevails, in either order
later : decision_of (branch_with Tos (8 ∷ []) 1 ∷ branch_with Tos (16 ∷ []) 2 ∷ []) ≡ Take (Keep ∷ Keep ∷ Keep ∷ Modify 1 ∷ Keep ∷ Keep ∷ Keep ∷ Keep ∷ Keep ∷ Keep ∷ [])
unfolding decision_of last_writer
later = refl

earlier : decision_of (branch_with Tos (8 ∷ []) 2 ∷ branch_with Tos (16 ∷ []) 1 ∷ []) ≡ Take (Keep ∷ Keep ∷ Keep ∷ Modify 0 ∷ Keep ∷ Keep ∷ Keep ∷ Keep ∷ Keep ∷ Keep ∷ [])
unfolding decision_of last_writer
earlier = refl

-- what the second branch has and didn't write doesn't prevail
unwritten : decision_of (branch_with Tos (8 ∷ []) 1 ∷ branch_with Tos (16 ∷ []) 0 ∷ []) ≡ Take (Keep ∷ Keep ∷ Keep ∷ Modify 0 ∷ Keep ∷ Keep ∷ Keep ∷ Keep ∷ Keep ∷ Keep ∷ [])
unfolding decision_of last_writer
unwritten = refl

-- without a writer
untouched : decision_of (branch_with Tos (8 ∷ []) 0 ∷ []) ≡ Take (Keep ∷ Keep ∷ Keep ∷ Keep ∷ Keep ∷ Keep ∷ Keep ∷ Keep ∷ Keep ∷ Keep ∷ [])
unfolding decision_of last_writer
untouched = refl

tagged : decision_of (branch_with Tag (0x81 ∷ 0 ∷ 0 ∷ 5 ∷ []) 3 ∷ []) ≡ Take (Keep ∷ Keep ∷ SetTags 0 ∷ Keep ∷ Keep ∷ Keep ∷ Keep ∷ Keep ∷ Keep ∷ Keep ∷ [])
unfolding decision_of last_writer
tagged = refl

-- of two drops the one that is earlier in the chain is named, whatever the order
dropped : decision_of (Nil 4 ∷ branch_with Tos (8 ∷ []) 1 ∷ Nil 2 ∷ []) ≡ Gone 2
unfolding decision_of last_writer
dropped = refl

dropped_first : decision_of (Nil 2 ∷ Nil 4 ∷ []) ≡ Gone 2
unfolding decision_of last_writer
dropped_first = refl

-- running out of memory takes precedence over a drop
halted : decision_of (Nil 4 ∷ Nil 2 ∷ Short ∷ []) ≡ Halted
unfolding decision_of last_writer
halted = refl

-- a base that kept the type of service, 0, and one that gave it to a branch
abbrev pub kept_base : PlainApart
kept_base = record {
  parts = as_list (λ g. if is_field Tos g then Some (record { bytes = 0 ∷ []; writer = 0; room = 1 }) else None);
  rest = [];
  fixed = fixed;
}

abbrev pub bare_base : PlainApart
bare_base = record { parts = as_list (λ g. None); rest = []; fixed = fixed }

-- 8 by the first function and 16 by the second give 16; without the second 8; without both, the base's own
later_value : values_of (merged_parts kept_base (branch_with Tos (8 ∷ []) 1 ∷ branch_with Tos (16 ∷ []) 2 ∷ [])) Tos ≡ Some (16 ∷ [])
unfolding merged_parts last_writer
later_value = refl

first_value : values_of (merged_parts kept_base (branch_with Tos (8 ∷ []) 1 ∷ branch_with Tos (16 ∷ []) 0 ∷ [])) Tos ≡ Some (8 ∷ [])
unfolding merged_parts last_writer
first_value = refl

own_value : values_of (merged_parts kept_base (branch_with Tos (8 ∷ []) 0 ∷ branch_with Tos (16 ∷ []) 0 ∷ [])) Tos ≡ Some (0 ∷ [])
unfolding merged_parts last_writer
own_value = refl

-- the original that a branch got comes back from there
given_value : values_of (merged_parts bare_base (Nil 3 ∷ branch_with Tos (16 ∷ []) 0 ∷ [])) Tos ≡ Some (16 ∷ [])
unfolding merged_parts last_writer
given_value = refl

-- a packet without the field goes on without it
absent_value : values_of (merged_parts bare_base (branch_with Tos (16 ∷ []) 2 ∷ [])) Tag ≡ None
unfolding merged_parts last_writer
absent_value = refl

-- two branches that write the type of service
abbrev pub marking : List Touch
marking = record { reads = record { 0 = 8 }; writes = record { 0 = 8 } } ∷ record { reads = record { 0 = 8 }; writes = record { 0 = 8 } } ∷ []

pub marking_modes : modes_of marking ≡ Shared ∷ Shared ∷ Shared ∷ Copied (Some 0) ∷ Shared ∷ Shared ∷ Shared ∷ Shared ∷ Shared ∷ Shared ∷ []
unfolding mode_of
marking_modes = refl
