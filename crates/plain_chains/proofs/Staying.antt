-- No packet changes the profiles of functions.
use Rattle.std.proofs.Common.{◌≡◌, ◌∙◌, ◌+◌, ℕ, Bool, true, false, List, [], ◌∷◌, map, ap, refl}
use Rattle.std.specs.Prelude.{if◌then◌else◌}
use Rattle.action_profile.specs.declared.rights.Profile.{Profile}
use Rattle.packet_fields.specs.Writing.{fields_of}
use Rattle.chain_walk.specs.Laws.{KeepsProfile}
use Rattle.chain_walk.specs.Shown.{fixed_of}
use Rattle.chain_walk.specs.Step.{Behaviour, is_drop}
use Rattle.chain_walk.specs.Walk.{applied, frame_after}
use Rattle.packet_function.specs.Deciding.{Deciding}
use Rattle.traced_walk.specs.Traced.{Act, Traced, traced, drop_of, pass_of, drop_traced, then_traced}

module _ {F : Type 0} (b : Behaviour F) (d : Deciding F) (time : ℕ) where
  step_stays : (drops : Bool) (gone pass : Act) (position : ℕ) (f : F) (later : List F) (t : Traced F) → map b.profile t.functions ≡ map b.profile later
      → map b.profile (if drops then drop_traced gone position f later else then_traced pass f t).functions ≡ b.profile f ∷ map b.profile later
  step_stays true gone pass position f later t h = refl
  step_stays false gone pass position f later t h = ap (λ profiles. b.profile f ∷ profiles) h

  pub profiles_stay : (position : ℕ) (functions : List F) (frame : List ℕ) → KeepsProfile b → map b.profile (traced b d time position functions frame).functions ≡ map b.profile functions
  unfolding traced
  profiles_stay position [] frame keeps = refl
  profiles_stay position (f ∷ later) frame keeps =
      step_stays (is_drop (applied b time f frame).verdict) (drop_of b d time f frame) (pass_of b d time f frame) position (applied b time f frame).after later
      (traced b d time (position + 1) later (frame_after b time f frame)) (profiles_stay (position + 1) later (frame_after b time f frame) keeps)
      ∙ ap (λ (profile : Profile). profile ∷ map b.profile later) (keeps.stays (fixed_of time frame) f (fields_of frame))
