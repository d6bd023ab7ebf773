-- The walk of a packet after this number of functions is the same walk, and only positions count these too.
use Rattle.std.proofs.Common.{◌≡◌, ◌∙◌, ◌+◌, ℕ, Bool, true, false, List, [], ◌∷◌, length, ap, refl, arith}
use Rattle.std.specs.Prelude.{if◌then◌else◌}
use Rattle.packet_fields.specs.Checksums.{sealed}
use Rattle.chain_walk.specs.Step.{Behaviour, is_drop}
use Rattle.chain_walk.specs.Walk.{Walked, walk, applied, frame_after, dropped_at, then_walked}
use Rattle.chain_walk.specs.declared.walk.Fate.{Fate}
use Rattle.chain_walk.specs.declared.walk.Fate.TheVariants.{Out, Gone}
use Rattle.piece_walk.specs.Pieces.{Piece, Graph, Whole, Went, long, then_went, went_on}
use Rattle.piece_walk.specs.Rejoining.{moved}

abbrev pub moved_walk : {F : Type 0} → ℕ → Walked F → Walked F
moved_walk n w = record { functions = w.functions; fate = moved n w.fate }

abbrev pub moved_way : {F : Type 0} → ℕ → Went F → Went F
moved_way n w = record { pieces = w.pieces; fate = moved n w.fate }

module _ {F : Type 0} (b : Behaviour F) (time n : ℕ) where
  walk_by : (drops : Bool) (position : ℕ) (f : F) (later : List F) (w v : Walked F) → w ≡ moved_walk n v →
      ◌≡◌ {A = Walked F} (if drops then dropped_at (n + position) f later else then_walked f w) (moved_walk n (if drops then dropped_at position f later else then_walked f v))
  walk_by true position f later w v h = refl
  walk_by false position f later w v h = ap (then_walked f) h

  pub walk_moved : (position : ℕ) (functions : List F) (frame : List ℕ) → walk b time (n + position) functions frame ≡ moved_walk n (walk b time position functions frame)
  unfolding walk
  walk_moved position [] frame = refl
  walk_moved position (f ∷ later) frame =
      let next = frame_after b time f frame in
      let same : n + position + 1 ≡ n + (position + 1) = omega arith in
      walk_by (is_drop (applied b time f frame).verdict) position (applied b time f frame).after later (walk b time (n + position + 1) later next) (walk b time (position + 1) later next)
      (ap (λ k. walk b time k later next) same ∙ walk_moved (position + 1) later next)

  on_by : (piece : Piece F) (later : List (Piece F)) (on on' : List ℕ → Went F) (fate : Fate) → ((frame : List ℕ) → on' frame ≡ moved_way n (on frame)) →
      ◌≡◌ {A = Went F} (went_on piece later on' (moved n fate)) (moved_way n (went_on piece later on fate))
  on_by piece later on on' (Out frame) h = ap (then_went piece) (h frame)
  on_by piece later on on' (Gone position) h = refl

  pub long_moved : (position : ℕ) (pieces : List (Piece F)) (frame : List ℕ) → long b time (n + position) pieces frame ≡ moved_way n (long b time position pieces frame)
  unfolding long
  long_moved position [] frame = refl
  long_moved position (Graph stages functions ∷ later) frame =
      let same : n + position + length functions ≡ n + (position + length functions) = omega arith in
      ap (λ (w : Walked F). went_on (Graph stages w.functions) later (λ left. long b time (n + position + length functions) later (sealed frame left)) w.fate) (walk_moved position functions frame)
      ∙ on_by (Graph stages (walk b time position functions frame).functions) later (λ left. long b time (position + length functions) later (sealed frame left)) (λ left. long b time (n + position + length functions) later (sealed frame left)) (walk b time position functions frame).fate
      (λ left. ap (λ k. long b time k later (sealed frame left)) same ∙ long_moved (position + length functions) later (sealed frame left))
  long_moved position (Whole rewritten ∷ later) frame =
      let same : n + position + 1 ≡ n + (position + 1) = omega arith in
      ap (then_went (Whole rewritten)) (ap (λ k. long b time k later (rewritten frame)) same ∙ long_moved (position + 1) later (rewritten frame))

  pub long_behind : (pieces : List (Piece F)) (frame : List ℕ) → long b time (1 + n) pieces frame ≡ moved_way n (long b time 1 pieces frame)
  long_behind pieces frame = let same : 1 + n ≡ n + 1 = omega arith in ap (λ k. long b time k pieces frame) same ∙ long_moved 1 pieces frame
