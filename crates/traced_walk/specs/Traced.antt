-- Believed: what each function did to a packet on its walk, with the lines of its declaration that decided it.
use Rattle.std.specs.Prelude.{ℕ, ◌+◌, List, [], ◌∷◌, ◌++◌, length, Bool, true, false, if◌then◌else◌}
use Rattle.packet_fields.specs.Checksums.{sealed}
use Rattle.packet_fields.specs.Writing.{fields_of}
use Rattle.chain_walk.specs.Shown.{fixed_of}
use Rattle.chain_walk.specs.Step.{Behaviour, is_drop}
use Rattle.chain_walk.specs.Walk.{applied, frame_after}
use Rattle.chain_walk.specs.declared.walk.Fate.{Fate}
use Rattle.chain_walk.specs.declared.walk.Fate.TheVariants.{Out, Gone}
use Rattle.piece_walk.specs.Pieces.{Piece, Graph, Whole}
use Rattle.packet_function.specs.Deciding.{Deciding, decided}
use Rattle.packet_function.specs.declared.deciding.DecidingLine.{DecidingLine}

-- What a function did to a packet: the lines of its declaration that decided it, whether it dropped the packet, and
-- the whole frame before it and behind it.
pub record Act : Type 0 where
  pub lines : List DecidingLine
  pub dropped : Bool
  pub before : List ℕ
  pub after : List ℕ

-- a function passed the frame on
abbrev pub pass_of : {F : Type 0} → Behaviour F → Deciding F → ℕ → F → List ℕ → Act
pass_of b d time f frame = record { lines = decided b d (fixed_of time frame) f (fields_of frame); dropped = false; before = frame; after = frame_after b time f frame }

-- a function dropped the packet; no frame is behind it, so the last one counts
abbrev pub drop_of : {F : Type 0} → Behaviour F → Deciding F → ℕ → F → List ℕ → Act
drop_of b d time f frame = record { lines = decided b d (fixed_of time frame) f (fields_of frame); dropped = true; before = frame; after = frame }

-- a function rewrote the frame whole
abbrev pub rewriting : (List ℕ → List ℕ) → List ℕ → Act
rewriting rewritten frame = record { lines = []; dropped = false; before = frame; after = rewritten frame }

-- Where a packet ended, the state in which it left the functions, and what those did that it reached, in chain order.
pub record Traced (F : Type 0) : Type 0 where
  pub functions : List F
  pub fate : Fate
  pub acts : List Act

-- the first function did this and is left in this state, and the rest of the walk was this
abbrev pub then_traced : {F : Type 0} → Act → F → Traced F → Traced F
then_traced act f rest = record { functions = f ∷ rest.functions; fate = rest.fate; acts = act ∷ rest.acts }

-- the function at this position dropped the packet, and those after it never saw it
abbrev pub drop_traced : {F : Type 0} → Act → ℕ → F → List F → Traced F
drop_traced act position f later = record { functions = f ∷ later; fate = Gone position; acts = act ∷ [] }

-- The walk from the function at this position on, and what each function did on it.
unfoldable pub traced : {F : Type 0} → Behaviour F → Deciding F → ℕ → ℕ → List F → List ℕ → Traced F
traced b d time position [] frame = record { functions = []; fate = Out frame; acts = [] }
traced b d time position (f ∷ later) frame =
    if is_drop (applied b time f frame).verdict
    then drop_traced (drop_of b d time f frame) position (applied b time f frame).after later
    else then_traced (pass_of b d time f frame) (applied b time f frame).after (traced b d time (position + 1) later (frame_after b time f frame))

-- Where a packet ended, the state in which it left the pieces, and what the functions did that it reached.
pub record LongTraced (F : Type 0) : Type 0 where
  pub pieces : List (Piece F)
  pub fate : Fate
  pub acts : List Act

-- the functions of the first piece did this, and the rest of the walk was this
abbrev pub then_long : {F : Type 0} → Piece F → List Act → LongTraced F → LongTraced F
then_long piece acts rest = record { pieces = piece ∷ rest.pieces; fate = rest.fate; acts = acts ++ rest.acts }

-- a packet that passed a piece goes on; the pieces after the one that dropped it never see it
abbrev pub long_on : {F : Type 0} → Piece F → List (Piece F) → List Act → (List ℕ → LongTraced F) → Fate → LongTraced F
long_on piece later acts on (Out frame) = then_long piece acts (on frame)
long_on piece later acts on (Gone position) = record { pieces = piece ∷ later; fate = Gone position; acts = acts }

-- The walk through the pieces, whose first function has this position in the chain, and what each function did on it:
-- the frame that a piece passes on is sealed against the frame that entered it, and so the next function sees it.
unfoldable pub long_traced : {F : Type 0} → Behaviour F → Deciding F → ℕ → ℕ → List (Piece F) → List ℕ → LongTraced F
long_traced b d time position [] frame = record { pieces = []; fate = Out frame; acts = [] }
long_traced b d time position (Graph stages functions ∷ later) frame =
    long_on (Graph stages (traced b d time position functions frame).functions) later (traced b d time position functions frame).acts
    (λ left. long_traced b d time (position + length functions) later (sealed frame left)) (traced b d time position functions frame).fate
long_traced b d time position (Whole rewritten ∷ later) frame =
    then_long (Whole rewritten) (rewriting rewritten frame ∷ []) (long_traced b d time (position + 1) later (rewritten frame))
