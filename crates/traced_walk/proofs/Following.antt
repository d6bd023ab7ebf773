-- In a piece each function acts on the frame that the one before left.
use Rattle.std.proofs.Common.{◌≡◌, ◌+◌, ℕ, Bool, true, false, List, [], ◌∷◌, refl}
use Rattle.std.specs.Prelude.{if◌then◌else◌}
use Rattle.chain_walk.specs.Step.{Behaviour, is_drop}
use Rattle.chain_walk.specs.Walk.{applied, frame_after}
use Rattle.packet_function.specs.Deciding.{Deciding}
use Rattle.traced_walk.specs.Following.{Follow, IfOut, left_by}
use Rattle.traced_walk.specs.Traced.{Act, Traced, traced, drop_of, pass_of, drop_traced, then_traced}

step_follows : {F : Type 0} (drops : Bool) (gone pass : Act) (position : ℕ) (f : F) (later : List F) (t : Traced F) (frame : List ℕ)
    → gone.before ≡ frame → pass.before ≡ frame → Follow pass.after t.acts
    → Follow frame (if drops then drop_traced gone position f later else then_traced pass f t).acts
step_follows true gone pass position f later t frame at_gone at_pass rest = (at_gone, tt)
step_follows false gone pass position f later t frame at_gone at_pass rest = (at_pass, rest)

step_goes_out : {F : Type 0} (drops : Bool) (gone pass : Act) (position : ℕ) (f : F) (later : List F) (t : Traced F) (frame : List ℕ)
    → IfOut (left_by pass.after t.acts) t.fate
    → IfOut (left_by frame (if drops then drop_traced gone position f later else then_traced pass f t).acts) (if drops then drop_traced gone position f later else then_traced pass f t).fate
step_goes_out true gone pass position f later t frame rest = tt
step_goes_out false gone pass position f later t frame rest = rest

pub acts_follow : {F : Type 0} (b : Behaviour F) (d : Deciding F) (time position : ℕ) (functions : List F) (frame : List ℕ) → Follow frame (traced b d time position functions frame).acts
unfolding traced
acts_follow b d time position [] frame = tt
acts_follow b d time position (f ∷ later) frame =
    step_follows (is_drop (applied b time f frame).verdict) (drop_of b d time f frame) (pass_of b d time f frame) position (applied b time f frame).after later
    (traced b d time (position + 1) later (frame_after b time f frame)) frame refl refl (acts_follow b d time (position + 1) later (frame_after b time f frame))

pub last_goes_out : {F : Type 0} (b : Behaviour F) (d : Deciding F) (time position : ℕ) (functions : List F) (frame : List ℕ) →
    IfOut (left_by frame (traced b d time position functions frame).acts) (traced b d time position functions frame).fate
unfolding traced
last_goes_out b d time position [] frame = refl
last_goes_out b d time position (f ∷ later) frame =
    step_goes_out (is_drop (applied b time f frame).verdict) (drop_of b d time f frame) (pass_of b d time f frame) position (applied b time f frame).after later
    (traced b d time (position + 1) later (frame_after b time f frame)) frame (last_goes_out b d time (position + 1) later (frame_after b time f frame))
