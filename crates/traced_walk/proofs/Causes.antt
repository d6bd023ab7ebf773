-- Each act that dropped a packet has exactly one deciding line.
use Rattle.std.proofs.Common.{◌≡◌, ◌+◌, ℕ, Bool, true, false, List, [], ◌∷◌, length, refl}
use Rattle.std.specs.Prelude.{All, if◌then◌else◌}
use Rattle.std.proofs.lemmas.List.Elements.{All-cons, All-nil, All-append}
use Rattle.packet_fields.specs.Checksums.{sealed}
use Rattle.packet_fields.specs.Writing.{fields_of}
use Rattle.chain_walk.specs.Shown.{fixed_of}
use Rattle.chain_walk.specs.Step.{Behaviour, is_drop}
use Rattle.chain_walk.specs.Walk.{applied, frame_after}
use Rattle.chain_walk.specs.declared.walk.Fate.{Fate}
use Rattle.chain_walk.specs.declared.walk.Fate.TheVariants.{Out, Gone}
use Rattle.piece_walk.specs.Pieces.{Piece, Graph, Whole}
use Rattle.packet_function.specs.Deciding.{Deciding, DecidesDrops}
use Rattle.traced_walk.specs.Following.{HasCause}
use Rattle.traced_walk.specs.Traced.{Act, Traced, LongTraced, traced, long_traced, drop_of, pass_of, rewriting, drop_traced, then_traced, long_on}

passing_has_cause : (act : Act) → act.dropped ≡ false → HasCause act
passing_has_cause act passes = λ drops. let wrong : true ≡ act.dropped = cc in absurd cc

step_has_cause : {F : Type 0} (drops : Bool) (gone pass : Act) (position : ℕ) (f : F) (later : List F) (t : Traced F)
    → (drops ≡ true → HasCause gone) → pass.dropped ≡ false → All HasCause t.acts
    → All HasCause (if drops then drop_traced gone position f later else then_traced pass f t).acts
step_has_cause true gone pass position f later t cause passes rest = All-cons HasCause gone [] (cause refl) (All-nil HasCause)
step_has_cause false gone pass position f later t cause passes rest = All-cons HasCause pass t.acts (passing_has_cause pass passes) rest

on_has_cause : {F : Type 0} (piece : Piece F) (later : List (Piece F)) (acts : List Act) (on : List ℕ → LongTraced F) (fate : Fate)
    → All HasCause acts → ((frame : List ℕ) → All HasCause (on frame).acts)
    → All HasCause (long_on piece later acts on fate).acts
on_has_cause piece later acts on (Out frame) here rest = All-append HasCause acts (on frame).acts here (rest frame)
on_has_cause piece later acts on (Gone position) here rest = here

pub each_has_cause : {F : Type 0} (b : Behaviour F) (d : Deciding F) (time position : ℕ) (functions : List F) (frame : List ℕ) → DecidesDrops b d →
    All HasCause (traced b d time position functions frame).acts
unfolding traced
each_has_cause b d time position [] frame drops = All-nil HasCause
each_has_cause b d time position (f ∷ later) frame drops =
    step_has_cause (is_drop (applied b time f frame).verdict) (drop_of b d time f frame) (pass_of b d time f frame) position (applied b time f frame).after later
    (traced b d time (position + 1) later (frame_after b time f frame))
    (λ is. λ same. drops.one (fixed_of time frame) f (fields_of frame) is) refl (each_has_cause b d time (position + 1) later (frame_after b time f frame) drops)

pub each_of_pieces_has_cause : {F : Type 0} (b : Behaviour F) (d : Deciding F) (time position : ℕ) (pieces : List (Piece F)) (frame : List ℕ) → DecidesDrops b d →
    All HasCause (long_traced b d time position pieces frame).acts
unfolding long_traced
each_of_pieces_has_cause b d time position [] frame drops = All-nil HasCause
each_of_pieces_has_cause b d time position (Graph stages functions ∷ later) frame drops =
    let t = traced b d time position functions frame in
    on_has_cause (Graph stages t.functions) later t.acts (λ left. long_traced b d time (position + length functions) later (sealed frame left)) t.fate
    (each_has_cause b d time position functions frame drops) (λ left. each_of_pieces_has_cause b d time (position + length functions) later (sealed frame left) drops)
each_of_pieces_has_cause b d time position (Whole rewritten ∷ later) frame drops =
    All-cons HasCause (rewriting rewritten frame) (long_traced b d time (position + 1) later (rewritten frame)).acts (passing_has_cause (rewriting rewritten frame) refl)
    (each_of_pieces_has_cause b d time (position + 1) later (rewritten frame) drops)
