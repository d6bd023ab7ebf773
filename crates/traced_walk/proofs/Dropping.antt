-- A packet that is dropped is dropped by the last act.
use Rattle.std.proofs.Common.{◌≡◌, ◌∙◌, ◌+◌, ℕ, Bool, true, false, List, [], ◌∷◌, ◌++◌, length, ap, refl, sym, subst, append_assoc, length-append, arith}
use Rattle.std.specs.Prelude.{All, sum_by, if◌then◌else◌}
use Rattle.std.proofs.lemmas.List.Elements.{All-cons, All-nil, All-append}
use Rattle.std.proofs.lemmas.List.Sums.{sum_by-cons}
use Rattle.packet_fields.specs.Checksums.{sealed}
use Rattle.chain_walk.specs.Step.{Behaviour, is_drop}
use Rattle.chain_walk.specs.Walk.{applied, frame_after}
use Rattle.chain_walk.specs.declared.walk.Fate.{Fate}
use Rattle.chain_walk.specs.declared.walk.Fate.TheVariants.{Out, Gone}
use Rattle.piece_walk.specs.Pieces.{Piece, Graph, Whole, count_of}
use Rattle.packet_function.specs.Deciding.{Deciding}
use Rattle.traced_walk.specs.Following.{Passes, LastDrops, LedTo}
use Rattle.traced_walk.specs.Traced.{Act, Traced, LongTraced, traced, long_traced, drop_of, pass_of, rewriting, drop_traced, then_traced, long_on}

-- one act alone, which dropped the packet
dropped_now : (first : ℕ) (act : Act) → act.dropped ≡ true → LastDrops first first (act ∷ [])
dropped_now first act drops = record { front = []; last = act; parts = refl; passes = All-nil Passes; drops = drops; position = omega arith }

-- acts that passed the packet on, and others behind them
passed_before : (first count more : ℕ) (acts later : List Act) (fate : Fate)
    → All Passes acts → length acts ≡ count → LedTo (first + count) more later fate → LedTo first (count + more) (acts ++ later) fate
passed_before first count more acts later (Out frame) passes size rest =
    let all = rest.1 in (All-append Passes acts later passes rest.0, omega (arith, length-append acts later))
passed_before first count more acts later (Gone place) passes size rest = record {
  front = acts ++ rest.front;
  last = rest.last;
  parts = ap (λ l. acts ++ l) rest.parts ∙ sym (append_assoc acts rest.front (rest.last ∷ []));
  passes = All-append Passes acts rest.front passes rest.passes;
  drops = rest.drops;
  position = let here = rest.position in omega (arith, length-append acts rest.front);
}

one_passed : (first count : ℕ) (act : Act) (later : List Act) (fate : Fate) → act.dropped ≡ false → LedTo (first + 1) count later fate → LedTo first (1 + count) (act ∷ later) fate
one_passed first count act later fate passes rest = passed_before first 1 count (act ∷ []) later fate (All-cons Passes act [] passes (All-nil Passes)) refl rest

step_led : {F : Type 0} (drops : Bool) (gone pass : Act) (first count : ℕ) (f : F) (later : List F) (t : Traced F)
    → gone.dropped ≡ true → pass.dropped ≡ false → LedTo (first + 1) count t.acts t.fate
    → LedTo first (1 + count) (if drops then drop_traced gone first f later else then_traced pass f t).acts (if drops then drop_traced gone first f later else then_traced pass f t).fate
step_led true gone pass first count f later t dropped passes rest = dropped_now first gone dropped
step_led false gone pass first count f later t dropped passes rest = one_passed first count pass t.acts t.fate passes rest

on_led : {F : Type 0} (first count more : ℕ) (piece : Piece F) (later : List (Piece F)) (acts : List Act) (on : List ℕ → LongTraced F) (fate : Fate)
    → LedTo first count acts fate
    → ((frame : List ℕ) → LedTo (first + count) more (on frame).acts (on frame).fate)
    → LedTo first (count + more) (long_on piece later acts on fate).acts (long_on piece later acts on fate).fate
on_led first count more piece later acts on (Out frame) here rest = passed_before first count more acts (on frame).acts (on frame).fate here.0 here.1 (rest frame)
on_led first count more piece later acts on (Gone position) here rest = here

pub led_to : {F : Type 0} (b : Behaviour F) (d : Deciding F) (time position : ℕ) (functions : List F) (frame : List ℕ) →
    LedTo position (length functions) (traced b d time position functions frame).acts (traced b d time position functions frame).fate
unfolding traced
led_to b d time position [] frame = (All-nil Passes, refl)
led_to b d time position (f ∷ later) frame =
    let one : 1 + length later ≡ length (f ∷ later) = omega arith in
    let t = traced b d time position (f ∷ later) frame in
    subst (λ n. LedTo position n t.acts t.fate) one
    (step_led (is_drop (applied b time f frame).verdict) (drop_of b d time f frame) (pass_of b d time f frame) position (length later) (applied b time f frame).after later
    (traced b d time (position + 1) later (frame_after b time f frame)) refl refl (led_to b d time (position + 1) later (frame_after b time f frame)))

pub long_led_to : {F : Type 0} (b : Behaviour F) (d : Deciding F) (time position : ℕ) (pieces : List (Piece F)) (frame : List ℕ) →
    LedTo position (sum_by count_of pieces) (long_traced b d time position pieces frame).acts (long_traced b d time position pieces frame).fate
unfolding long_traced
long_led_to b d time position [] frame = (All-nil Passes, refl)
long_led_to b d time position (Graph stages functions ∷ later) frame =
    let t = traced b d time position functions frame in
    let whole = long_traced b d time position (Graph stages functions ∷ later) frame in
    subst (λ n. LedTo position n whole.acts whole.fate) (sym (sum_by-cons count_of (Graph stages functions) later))
    (on_led position (length functions) (sum_by count_of later) (Graph stages t.functions) later t.acts (λ left. long_traced b d time (position + length functions) later (sealed frame left)) t.fate
    (led_to b d time position functions frame) (λ left. long_led_to b d time (position + length functions) later (sealed frame left)))
long_led_to b d time position (Whole rewritten ∷ later) frame =
    let rest = long_traced b d time (position + 1) later (rewritten frame) in
    subst (λ n. LedTo position n (rewriting rewritten frame ∷ rest.acts) rest.fate) (sym (sum_by-cons count_of (Whole rewritten) later))
    (one_passed position (sum_by count_of later) (rewriting rewritten frame) rest.acts rest.fate refl (long_led_to b d time (position + 1) later (rewritten frame)))
