-- One function's turn, if it writes nothing.
use Rattle.std.proofs.Common.{◌≡◌, ◌∙◌, ℕ, Bool, true, false, List, sym, ap}
use Rattle.std.specs.Prelude.{Some, None, if◌then◌else◌}
use Rattle.chain_walk.specs.Step.{Behaviour, is_drop}
use Rattle.chain_walk.specs.Walk.{applied, frame_after}
use Rattle.chain_walk.specs.declared.verdict.Verdict.TheVariants.{Pass, Drop}
use Rattle.packet_function.specs.declared.deciding.DecidingLine.{DecidingLine}
use Rattle.traced_walk.specs.Traced.{Act}
use Rattle.traced_run.specs.declared.acts.Trace.{Trace}
use Rattle.traced_run.specs.declared.turn.Parted.{Parted}
use Rattle.traced_run.specs.Telling.{with_act}
use Rattle.traced_run.specs.Turning.{IsParted, IsTurned}

abbrev same_act : List DecidingLine → Bool → List ℕ → Act
same_act lines dropped frame = record { lines = lines; dropped = dropped; before = frame; after = frame }

-- what a function did, by its verdict
abbrev act_at : List DecidingLine → List ℕ → List ℕ → Bool → Act
act_at lines frame next drops = if drops then same_act lines true frame else record { lines = lines; dropped = false; before = frame; after = next }

pub dropped_turn : {F : Type 0} (b : Behaviour F) (lines told : List DecidingLine) (time : ℕ) (frame : List ℕ) (old new : F) (before after : Trace)
    → lines ≡ told → new ≡ (applied b time old frame).after
    → (applied b time old frame).verdict ≡ Drop → after ≡ with_act before (same_act told true frame) → IsTurned b lines time frame old new None before after
dropped_turn b lines told time frame old new before after same stepped verdict added =
    let drops : is_drop (applied b time old frame).verdict ≡ true = ap is_drop verdict in
    record {
      function = stepped;
      passed = sym (ap (λ (d : Bool). if d then None else Some (frame_after b time old frame)) drops);
      parted = tt;
      told = added ∙ ap (λ (l : List DecidingLine). with_act before (same_act l true frame)) (sym same)
          ∙ sym (ap (λ (d : Bool). with_act before (act_at lines frame (frame_after b time old frame) d)) drops);
    }

pub passed_turn : {F : Type 0} (b : Behaviour F) (lines told : List DecidingLine) (time : ℕ) (frame : List ℕ) (old new : F) (left : Parted) (before after : Trace)
    → lines ≡ told → new ≡ (applied b time old frame).after
    → (applied b time old frame).verdict ≡ Pass → frame_after b time old frame ≡ frame → left.frame ≡ frame → left.time ≡ time → IsParted left → after ≡ with_act before (same_act told false frame)
    → IsTurned b lines time frame old new (Some left) before after
passed_turn b lines told time frame old new left before after same stepped verdict stays at_frame at_time parted added =
    let drops : is_drop (applied b time old frame).verdict ≡ false = ap is_drop verdict in
    record {
      function = stepped;
      passed = ap (λ (l : List ℕ). Some l) (at_frame ∙ sym stays) ∙ sym (ap (λ (d : Bool). if d then None else Some (frame_after b time old frame)) drops);
      parted = (parted, at_time);
      told = added ∙ ap (λ (l : List DecidingLine). with_act before (same_act l false frame)) (sym same)
          ∙ ap (λ (next : List ℕ). with_act before (record { lines = lines; dropped = false; before = frame; after = next })) (sym stays)
          ∙ sym (ap (λ (d : Bool). with_act before (act_at lines frame (frame_after b time old frame) d)) drops);
    }
