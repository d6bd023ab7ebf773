-- How a walk continues from the function that it has reached.
use Rattle.std.proofs.Common.{◌≡◌, ◌+◌, ℕ, List, ◌∷◌, ap}
use Rattle.std.specs.Prelude.{true, false, if◌then◌else◌}
use Rattle.chain_walk.specs.Step.{Behaviour, is_drop}
use Rattle.chain_walk.specs.Walk.{walk, applied, frame_after, then_walked, dropped_at}

pub walk_passes : {F : Type 0} (b : Behaviour F) (time position : ℕ) (f : F) (later : List F) (frame : List ℕ) →
    is_drop (applied b time f frame).verdict ≡ false →
    walk b time position (f ∷ later) frame ≡ then_walked (applied b time f frame).after (walk b time (position + 1) later (frame_after b time f frame))
unfolding walk
walk_passes b time position f later frame h =
    ap (λ drops. if drops then dropped_at position (applied b time f frame).after later else then_walked (applied b time f frame).after (walk b time (position + 1) later (frame_after b time f frame))) h

pub walk_drops : {F : Type 0} (b : Behaviour F) (time position : ℕ) (f : F) (later : List F) (frame : List ℕ) →
    is_drop (applied b time f frame).verdict ≡ true → walk b time position (f ∷ later) frame ≡ dropped_at position (applied b time f frame).after later
unfolding walk
walk_drops b time position f later frame h =
    ap (λ drops. if drops then dropped_at position (applied b time f frame).after later else then_walked (applied b time f frame).after (walk b time (position + 1) later (frame_after b time f frame))) h
