-- Believed: the walk of a packet through the functions of a chain, one after another.
use Rattle.std.specs.Prelude.{ℕ, ◌+◌, ◌≤◌, List, [], ◌∷◌, if◌then◌else◌}
use Rattle.packet_fields.specs.Writing.{written, fields_of}
use Rattle.chain_walk.specs.Shown.{fixed_of}
use Rattle.chain_walk.specs.Step.{Step, Behaviour, stepped, is_drop}
use Rattle.chain_walk.specs.declared.walk.Fate.{Fate}
use Rattle.chain_walk.specs.declared.walk.Fate.TheVariants.{Out, Gone}

-- what a function does with a whole frame that was captured at this time, in nanoseconds
abbrev pub applied : {F : Type 0} → Behaviour F → ℕ → F → List ℕ → Step F
applied b time f frame = stepped b (fixed_of time frame) f (fields_of frame)

-- the frame after what the function wrote is put into its fields
abbrev pub frame_after : {F : Type 0} → Behaviour F → ℕ → F → List ℕ → List ℕ
frame_after b time f frame = written (applied b time f frame).written frame

-- Where a packet ended, and the state in which it left the functions.
pub record Walked (F : Type 0) : Type 0 where
  pub functions : List F
  pub fate : Fate

-- the first function is left in this state, and the rest of the walk was this
abbrev pub then_walked : {F : Type 0} → F → Walked F → Walked F
then_walked f rest = record { functions = f ∷ rest.functions; fate = rest.fate }

-- the function at this position dropped the packet, and those after it never saw it
abbrev pub dropped_at : {F : Type 0} → ℕ → F → List F → Walked F
dropped_at position f later = record { functions = f ∷ later; fate = Gone position }

-- The walk from the function at this position on: each function acts on the frame that the one before passed on,
-- and the first that drops the packet ends it.
unfoldable pub walk : {F : Type 0} → Behaviour F → ℕ → ℕ → List F → List ℕ → Walked F
walk b time position [] frame = record { functions = []; fate = Out frame }
walk b time position (f ∷ later) frame =
    if is_drop (applied b time f frame).verdict
    then dropped_at position (applied b time f frame).after later
    else then_walked (applied b time f frame).after (walk b time (position + 1) later (frame_after b time f frame))

-- a chain of this number of functions has one at the position at which the packet was dropped
abbrev pub EndsWithin : ℕ → Fate → Type 0
EndsWithin n (Out frame) = Unit {0}
EndsWithin n (Gone position) = (1 ≤ position) × (position ≤ n)
