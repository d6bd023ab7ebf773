-- For proofs: the way of a packet through one part of a chain.
use Rattle.std.specs.Prelude.{◌≡◌, ℕ, List, [], ◌∷◌}
use Rattle.chain_walk.specs.Step.{Behaviour}
use Rattle.chain_walk.specs.declared.walk.Fate.{Fate}
use Rattle.packet_function.specs.Deciding.{Deciding}
use Rattle.piece_walk.specs.Pieces.{Piece}
use Rattle.traced_walk.specs.Traced.{LongTraced, long_traced}
use Rattle.traced_run.specs.Telling.{with_acts}
use Rattle.traced_run.specs.declared.acts.Trace.{Trace}

-- the walk through one piece alone
abbrev pub alone : {F : Type 0} → Behaviour F → Deciding F → ℕ → ℕ → Piece F → List ℕ → LongTraced F
alone b d time position piece frame = long_traced b d time position (piece ∷ []) frame

-- A packet came to a piece, and left it so, with this fate and this trace.
pub record IsLed {F : Type 0} (b : Behaviour F) (d : Deciding F) (time position : ℕ) (frame : List ℕ) (old new : Piece F) (fate : Fate) (start end : Trace) : Type 0 where
  pub piece : new ∷ [] ≡ (alone b d time position old frame).pieces
  pub ends : fate ≡ (alone b d time position old frame).fate
  pub told : end ≡ with_acts start (alone b d time position old frame).acts
