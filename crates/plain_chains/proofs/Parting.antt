-- A packet goes through one part: functions in a row, or one end of a tunnel.
use Rattle.std.proofs.Common.{◌≡◌, ◌∙◌, ℕ, List, [], ◌∷◌, ap, sym}
use Rattle.action_profile.specs.declared.rights.Profile.{Profile}
use Rattle.chain_walk.specs.declared.walk.Fate.{Fate}
use Rattle.chain_walk.specs.declared.walk.Fate.TheVariants.{Out}
use Rattle.graph_compile.specs.Stages.{graph_of}
use Rattle.piece_walk.specs.Pieces.{Piece, Graph, Whole}
use Rattle.piece_walk.specs.Rejoining.{sealed_by}
use Rattle.traced_walk.specs.Traced.{LongTraced, rewriting, traced}
use Rattle.traced_run.specs.Telling.{with_acts}
use Rattle.traced_run.specs.declared.acts.Trace.{Trace}
use Rattle.policy_chains.specs.NamedFunctionLaws.{named_keeps}
use Rattle.policy_chains.specs.NamedFunctions.{named_behaviour, named_decides}
use Rattle.policy_chains.specs.Services.{compiled, stages_of}
use Rattle.policy_chains.specs.declared.named.NamedFunction.{NamedFunction}
use Rattle.plain_chains.specs.Leading.{IsLed, alone}
use Rattle.plain_chains.proofs.OnePart.{through_functions, through_whole}
use Rattle.plain_chains.proofs.Staying.{profiles_stay}

-- functions in a row are compiled to the same stages after a packet
same_stages : (time position : ℕ) (functions : List NamedFunction) (frame : List ℕ) → stages_of (traced named_behaviour named_decides time position functions frame).functions ≡ stages_of functions
same_stages time position functions frame = ap (λ (profiles : List Profile). (graph_of profiles).stages) (profiles_stay named_behaviour named_decides time position functions frame named_keeps)

pub functions_lead : (time position : ℕ) (frame : List ℕ) (old new : List NamedFunction) (fate : Fate) (start end : Trace) →
    new ≡ (traced named_behaviour named_decides time position old frame).functions →
    fate ≡ sealed_by frame (traced named_behaviour named_decides time position old frame).fate →
    end ≡ with_acts start (traced named_behaviour named_decides time position old frame).acts →
    IsLed named_behaviour named_decides time position frame (compiled old) (compiled new) fate start end
functions_lead time position frame old new fate start end functions ends told =
    let through = sym (through_functions named_behaviour named_decides time position (stages_of old) old frame) in
    record {
      piece =
          ap (λ (l : List NamedFunction). compiled l ∷ []) functions
          ∙ ap (λ stages. Graph stages (traced named_behaviour named_decides time position old frame).functions ∷ []) (same_stages time position old frame)
          ∙ ap (λ t. t.pieces) through;
      ends = ends ∙ ap (λ t. t.fate) through;
      told = told ∙ ap (λ (t : LongTraced NamedFunction). with_acts start t.acts) through;
    }

pub end_leads : (time position : ℕ) (frame : List ℕ) (rewritten : List ℕ → List ℕ) (fate : Fate) (start end : Trace) → fate ≡ Out (rewritten frame) →
    end ≡ with_acts start (rewriting rewritten frame ∷ []) → IsLed named_behaviour named_decides time position frame (Whole rewritten) (Whole rewritten) fate start end
end_leads time position frame rewritten fate start end ends told =
    let through = sym (through_whole named_behaviour named_decides time position rewritten frame) in
    record {
      piece = ap (λ t. t.pieces) through;
      ends = ends ∙ ap (λ t. t.fate) through;
      told = told ∙ ap (λ (t : LongTraced NamedFunction). with_acts start t.acts) through;
    }
