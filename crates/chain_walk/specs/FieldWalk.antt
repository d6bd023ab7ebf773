-- For proofs: the walk of a packet, in terms of its fields alone.
use Rattle.std.specs.Prelude.{ℕ, ◌+◌, List, [], ◌∷◌, if◌then◌else◌}
use Rattle.packet_fields.specs.Writing.{written, over}
use Rattle.chain_walk.specs.Shown.{Values}
use Rattle.chain_walk.specs.Step.{Behaviour, stepped, is_drop}
use Rattle.chain_walk.specs.Walk.{Walked}
use Rattle.chain_walk.specs.declared.fixed.Fixed.{Fixed}
use Rattle.chain_walk.specs.declared.walk.Fate.{Fate}
use Rattle.chain_walk.specs.declared.walk.Fate.TheVariants as fates

-- Where a packet ends: it goes out with these values, or the function at this position dropped it.
pub data End : Type 0 where
  Out : (values : Values) → End
  Gone : (position : ℕ) → End

-- Where it ended, and the state in which it left the functions.
pub record Ended (F : Type 0) : Type 0 where
  pub functions : List F
  pub end : End

-- the first function is left in this state, and the rest of the walk was this
abbrev pub then_ended : {F : Type 0} → F → Ended F → Ended F
then_ended f rest = record { functions = f ∷ rest.functions; end = rest.end }

-- The walk from the function at this position on: what a function writes replaces what was there.
unfoldable pub walk_fields : {F : Type 0} → Behaviour F → Fixed → ℕ → List F → Values → Ended F
walk_fields b fixed position [] values = record { functions = []; end = Out values }
walk_fields b fixed position (f ∷ later) values =
    if is_drop (stepped b fixed f values).verdict
    then record { functions = (stepped b fixed f values).after ∷ later; end = Gone position }
    else then_ended (stepped b fixed f values).after (walk_fields b fixed (position + 1) later (over (stepped b fixed f values).written values))

-- the fate of a packet with this frame that ended so
abbrev pub fate_by : List ℕ → End → Fate
fate_by frame (Out values) = fates.Out (written values frame)
fate_by frame (Gone position) = fates.Gone position

-- the walk of a frame whose fields walked so
abbrev pub walked_by : {F : Type 0} → List ℕ → Ended F → Walked F
walked_by frame ended = record { functions = ended.functions; fate = fate_by frame ended.end }
