-- Without its acts a trace is the walk.
use Rattle.std.proofs.Common.{◌≡◌, ◌∙◌, ◌+◌, ℕ, Bool, true, false, List, [], ◌∷◌, length, ap, refl}
use Rattle.std.specs.Prelude.{if◌then◌else◌}
use Rattle.packet_fields.specs.Checksums.{sealed}
use Rattle.chain_walk.specs.Step.{Behaviour, is_drop}
use Rattle.chain_walk.specs.Walk.{Walked, walk, applied, frame_after, dropped_at, then_walked}
use Rattle.chain_walk.specs.declared.walk.Fate.{Fate}
use Rattle.chain_walk.specs.declared.walk.Fate.TheVariants.{Out, Gone}
use Rattle.piece_walk.specs.Pieces.{Piece, Graph, Whole, Went, long, then_went, went_on}
use Rattle.packet_function.specs.Deciding.{Deciding}
use Rattle.traced_walk.specs.Traced.{Act, Traced, LongTraced, traced, long_traced, drop_of, pass_of, drop_traced, then_traced, long_on}

-- a trace without its acts
abbrev pub as_walked : {F : Type 0} → Traced F → Walked F
as_walked t = record { functions = t.functions; fate = t.fate }

abbrev pub as_went : {F : Type 0} → LongTraced F → Went F
as_went t = record { pieces = t.pieces; fate = t.fate }

module _ {F : Type 0} (b : Behaviour F) (d : Deciding F) (time : ℕ) where
  step_as_walked : (drops : Bool) (gone pass : Act) (position : ℕ) (f : F) (later : List F) (t : Traced F) (w : Walked F) → as_walked t ≡ w →
      ◌≡◌ {A = Walked F} (as_walked (if drops then drop_traced gone position f later else then_traced pass f t)) (if drops then dropped_at position f later else then_walked f w)
  step_as_walked true gone pass position f later t w h = refl
  step_as_walked false gone pass position f later t w h = ap (then_walked f) h

  pub is_walk : (position : ℕ) (functions : List F) (frame : List ℕ) → as_walked (traced b d time position functions frame) ≡ walk b time position functions frame
  unfolding walk traced
  is_walk position [] frame = refl
  is_walk position (f ∷ later) frame =
      step_as_walked (is_drop (applied b time f frame).verdict) (drop_of b d time f frame) (pass_of b d time f frame) position (applied b time f frame).after later
      (traced b d time (position + 1) later (frame_after b time f frame)) (walk b time (position + 1) later (frame_after b time f frame))
      (is_walk (position + 1) later (frame_after b time f frame))

  on_as_went : (piece : Piece F) (later : List (Piece F)) (acts : List Act) (on : List ℕ → LongTraced F) (way : List ℕ → Went F) (fate : Fate) →
      ((frame : List ℕ) → as_went (on frame) ≡ way frame) → ◌≡◌ {A = Went F} (as_went (long_on piece later acts on fate)) (went_on piece later way fate)
  on_as_went piece later acts on way (Out frame) h = ap (then_went piece) (h frame)
  on_as_went piece later acts on way (Gone position) h = refl

  pub is_long : (position : ℕ) (pieces : List (Piece F)) (frame : List ℕ) → as_went (long_traced b d time position pieces frame) ≡ long b time position pieces frame
  unfolding long long_traced
  is_long position [] frame = refl
  is_long position (Graph stages functions ∷ later) frame =
      on_as_went (Graph stages (traced b d time position functions frame).functions) later (traced b d time position functions frame).acts
      (λ left. long_traced b d time (position + length functions) later (sealed frame left)) (λ left. long b time (position + length functions) later (sealed frame left))
      (traced b d time position functions frame).fate (λ left. is_long (position + length functions) later (sealed frame left))
      ∙ ap (λ (w : Walked F). went_on (Graph stages w.functions) later (λ left. long b time (position + length functions) later (sealed frame left)) w.fate) (is_walk position functions frame)
  is_long position (Whole rewritten ∷ later) frame = ap (then_went (Whole rewritten)) (is_long (position + 1) later (rewritten frame))

pub same_functions : {F : Type 0} (b : Behaviour F) (d : Deciding F) (time position : ℕ) (functions : List F) (frame : List ℕ) →
    (traced b d time position functions frame).functions ≡ (walk b time position functions frame).functions
same_functions b d time position functions frame = ap (λ w. w.functions) (is_walk b d time position functions frame)

pub same_fate : {F : Type 0} (b : Behaviour F) (d : Deciding F) (time position : ℕ) (functions : List F) (frame : List ℕ) →
    (traced b d time position functions frame).fate ≡ (walk b time position functions frame).fate
same_fate b d time position functions frame = ap (λ w. w.fate) (is_walk b d time position functions frame)

pub same_pieces : {F : Type 0} (b : Behaviour F) (d : Deciding F) (time position : ℕ) (pieces : List (Piece F)) (frame : List ℕ) →
    (long_traced b d time position pieces frame).pieces ≡ (long b time position pieces frame).pieces
same_pieces b d time position pieces frame = ap (λ w. w.pieces) (is_long b d time position pieces frame)

pub same_long_fate : {F : Type 0} (b : Behaviour F) (d : Deciding F) (time position : ℕ) (pieces : List (Piece F)) (frame : List ℕ) →
    (long_traced b d time position pieces frame).fate ≡ (long b time position pieces frame).fate
same_long_fate b d time position pieces frame = ap (λ w. w.fate) (is_long b d time position pieces frame)
