-- For proofs: what one turn of a walk passes on, and where a walk stops because it runs out of memory.
use Rattle.std.specs.Prelude.{◌≡◌, ◌≤◌, ◌⊎◌, ℕ, List, length, take, drop, Bool, true, false, if◌then◌else◌, Option, Some, None}
use Rattle.chain_walk.specs.Step.{Behaviour, is_drop}
use Rattle.chain_walk.specs.Walk.{walk, applied, frame_after}
use Rattle.chain_walk.specs.declared.walk.Fate.{Fate}
use Rattle.chain_walk.specs.declared.walk.Fate.TheVariants.{Out, Gone}

-- the frame that a function passes on, or none if it drops the packet
abbrev pub handed_on : {F : Type 0} → Behaviour F → ℕ → F → List ℕ → Option (List ℕ)
handed_on b time f frame = if is_drop (applied b time f frame).verdict then None else Some (frame_after b time f frame)

-- a function is unchanged, or it passed the packet on
abbrev pub MayHaveSeen : {F : Type 0} → Behaviour F → ℕ → F → List ℕ → F → Type 0
MayHaveSeen b time f frame after = (after ≡ f) ⊎ ((is_drop (applied b time f frame).verdict ≡ false) × (after ≡ (applied b time f frame).after))

abbrev pub goes_out : Fate → Bool
goes_out (Out frame) = true
goes_out (Gone position) = false

-- This number of the functions saw the packet and passed it on, and the others are unchanged.
pub record StopsAt {F : Type 0} (b : Behaviour F) (time : ℕ) (frame : List ℕ) (seen : ℕ) (old new : List F) : Type 0 where
  pub within : seen ≤ length old
  pub first : take seen new ≡ (walk b time 1 (take seen old) frame).functions
  pub passed : goes_out (walk b time 1 (take seen old) frame).fate ≡ true
  pub others : drop seen new ≡ drop seen old
