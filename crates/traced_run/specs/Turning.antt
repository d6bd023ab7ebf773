-- For proofs: one function's turn on a packet that is kept in parts.
use Rattle.std.specs.Prelude.{◌≡◌, ℕ, List, true, false, if◌then◌else◌, Option, IfSome, option_map}
use Rattle.chain_walk.specs.Step.{Behaviour, is_drop}
use Rattle.chain_walk.specs.Walk.{applied, frame_after}
use Rattle.frame_walk.specs.Stopping.{handed_on}
use Rattle.packet_function.specs.declared.deciding.DecidingLine.{DecidingLine}
use Rattle.packet_version.specs.Splitting.{joined, taken_apart}
use Rattle.traced_walk.specs.Traced.{Act}
use Rattle.traced_run.specs.declared.acts.Trace.{Trace}
use Rattle.traced_run.specs.declared.turn.Parted.{Parted}
use Rattle.traced_run.specs.Telling.{with_act}

-- The parts are those of the frame, with room for one more tag. Put together again they are the frame.
pub record IsParted (packet : Parted) : Type 0 where
  pub apart : packet.whole ≡ taken_apart 1 packet.time packet.frame
  pub again : joined packet.whole ≡ packet.frame

-- what a function did to a frame, if these lines decided it
abbrev pub act_by : {F : Type 0} → Behaviour F → List DecidingLine → ℕ → List ℕ → F → Act
act_by b lines time frame f =
    if is_drop (applied b time f frame).verdict
    then record { lines = lines; dropped = true; before = frame; after = frame }
    else record { lines = lines; dropped = false; before = frame; after = frame_after b time f frame }

-- A function had its turn on a frame: it is as its step leaves it, the packet that it passed on is in parts, and what
-- it did is in the trace.
pub record IsTurned {F : Type 0} (b : Behaviour F) (lines : List DecidingLine) (time : ℕ) (frame : List ℕ) (old new : F) (left : Option Parted) (before after : Trace) : Type 0 where
  pub function : new ≡ (applied b time old frame).after
  pub passed : option_map (λ p. p.frame) left ≡ handed_on b time old frame
  pub parted : IfSome left (λ p. IsParted p × (p.time ≡ time))
  pub told : after ≡ with_act before (act_by b lines time frame old)
