-- The answer is Done if the policy, the graphs and the capture were read to their ends.
use Rattle.std.proofs.Common.{◌≡◌, ◌∙◌, ℕ, List, ap, sym, subst}
use Rattle.std.specs.Prelude.{Option, Some, None, IfNone, IfOk, Result, Ok, Err}
use Rattle.nfp_outside.specs.declared.slot.Slot.{Slot}
use Rattle.nfp_outside.specs.declared.slot.Slot.TheVariants as slots
use Rattle.nfp_outside.specs.Outside.{SlotView}
use Rattle.pcap_io.specs.declared.capture.CaptureFault.{CaptureFault}
use Rattle.capture_run.specs.CaptureReportProofs.{Ended}
use Rattle.capture_items.specs.declared.fault.FormatFault.{FormatFault}
use Rattle.capture_items.specs.declared.fault.FormatFault.TheVariants as formats
use Rattle.capture_items.specs.declared.fault.RunFault.{RunFault}
use Rattle.capture_items.specs.declared.fault.RunFault.TheVariants as faults
use Rattle.command_words.specs.declared.usage.UsageFault.{UsageFault}
use Rattle.command_words.specs.Words.{Command, Demo, Flows, Plan, Run}
use Rattle.flow_line.specs.declared.line.FlowLine.{FlowLine}
use Rattle.nfp_run.specs.Answers.{AreTextsReadWhole, ReadsToEnd}
use Rattle.call_ending.specs.Told.{IsReadWhole}
use Rattle.nfp_run.specs.Closing.{closed, ending_of}
use Rattle.call_ending.specs.Endings.{outcome_seen}
use Rattle.nfp_run.specs.FlowsRan.{flows_ending}
use Rattle.nfp_run.specs.Reading.{EndsAtTexts}
use Rattle.call_ending.specs.Reading.{RefusedOpening}
use Rattle.call_ending.specs.declared.ending.Ending.{Ending}
use Rattle.call_ending.specs.declared.ending.Ending.TheVariants.{Completed, Shown, Refused, GraphRefused, Stopped}
use Rattle.nfp_run.specs.declared.prepared.Prepared.{Prepared}
use Rattle.call_ending.specs.declared.outcome.Outcome.{Outcome}
use Rattle.call_ending.specs.declared.outcome.Outcome.TheVariants.{Done, Usage, Policy, Graph, Capture, CaptureNg, ReadFault, WriteFault, OutOfMemory}

-- ---- the policy and the graphs

pub policy_whole : (new : Slot → SlotView) (r : Result Prepared Ending) → IsReadWhole (new slots.Policy) → IfOk r (λ p. AreTextsReadWhole None new)
policy_whole new (Ok p) policy = policy
policy_whole new (Err ending) policy = tt

pub texts_whole : (name : List ℕ) (mid new : Slot → SlotView) (r : Result Prepared Ending) → new slots.Policy ≡ mid slots.Policy → IsReadWhole (mid slots.Policy) →
    IfOk r (λ p. IsReadWhole (new slots.Graph)) →
    IfOk r (λ p. AreTextsReadWhole (Some name) new)
texts_whole name mid new (Ok p) same policy graph = (subst IsReadWhole (sym same) policy, graph)
texts_whole name mid new (Err ending) same policy graph = tt

-- both stay as they were read
pub texts_to : (named : Option (List ℕ)) (mid new : Slot → SlotView) → new slots.Policy ≡ mid slots.Policy → new slots.Graph ≡ mid slots.Graph → AreTextsReadWhole named mid →
    AreTextsReadWhole named new
texts_to None mid new policy graph h = subst IsReadWhole (sym policy) h
texts_to (Some name) mid new policy graph (p, g) = (subst IsReadWhole (sym policy) p, subst IsReadWhole (sym graph) g)

-- a call that ends at the policy or at the graphs isn't done
pub texts_early : (named : Option (List ℕ)) (old new : Slot → SlotView) (e : Ending) → EndsAtTexts named old new e → outcome_seen e ≡ Done → ⊥
texts_early named old new (Refused refusal) ends done = cc
texts_early named old new (GraphRefused refusal) ends done = cc
texts_early named old new (Stopped (ReadFault s)) ends done = cc
texts_early named old new (Stopped OutOfMemory) ends done = cc
texts_early named old new (Stopped Done) ends done = ends
texts_early named old new (Stopped (Usage fault)) ends done = ends
texts_early named old new (Stopped (Policy fault)) ends done = ends
texts_early named old new (Stopped (Graph fault)) ends done = ends
texts_early named old new (Stopped (Capture fault)) ends done = ends
texts_early named old new (Stopped (CaptureNg fault)) ends done = ends
texts_early named old new (Stopped (WriteFault s)) ends done = ends
texts_early named old new (Completed totals) ends done = ends
texts_early named old new (Shown text) ends done = ends

-- ---- the capture

-- nor is one whose capture isn't opened
pub refused_early : (old new : SlotView) (outcome : Outcome) → RefusedOpening old new outcome → outcome ≡ Done → ⊥
refused_early old new outcome refused done = subst (RefusedOpening old new) done refused

-- a capture that ran was read to its end, or has a fault
pub ended_drained : (r : Result Ended RunFault) (slot : SlotView) → IfOk r (λ ended. IfNone ended.fault (IsReadWhole slot)) → outcome_seen (ending_of r) ≡ Done → IsReadWhole slot
ended_drained (Ok ended) slot drained done = go ended.fault drained done
  where
    go : (fault : Option FormatFault) → IfNone fault (IsReadWhole slot) → outcome_seen (closed ended.totals fault) ≡ Done → IsReadWhole slot
    go None h e = h
    go (Some (formats.Pcap fault)) h e = absurd cc
    go (Some (formats.Ng fault)) h e = absurd cc
ended_drained (Err faults.ReadFault) slot drained done = absurd cc
ended_drained (Err (faults.WriteFault s)) slot drained done = absurd cc
ended_drained (Err faults.OutOfMemory) slot drained done = absurd cc

-- a capture whose flows were counted was read to its end, or has a fault
flows_drained : (records : ℕ) (lines : List FlowLine) (fault : Option CaptureFault) (slot : SlotView) → IfNone fault (IsReadWhole slot) → outcome_seen (flows_ending records lines fault) ≡ Done →
    IsReadWhole slot
flows_drained records lines None slot drained done = drained
flows_drained records lines (Some fault) slot drained done = absurd cc

pub exported_drained : (records : ℕ) (lines : List FlowLine) (fault : Option CaptureFault) (mid new : SlotView) (r : Result Ending RunFault) → new ≡ mid → IfNone fault (IsReadWhole mid) →
    IfOk r (λ ending. ending ≡ flows_ending records lines fault) →
    IfOk r (λ ending. outcome_seen ending ≡ Done → IsReadWhole new)
exported_drained records lines fault mid new (Ok ending) same drained is = λ done. subst IsReadWhole (sym same) (flows_drained records lines fault mid drained (ap outcome_seen (sym is) ∙ done))
exported_drained records lines fault mid new (Err e) same drained is = tt

-- ---- all three

-- the line in Note touches none of them
pub to_end : (command : Result Command UsageFault) (mid new : Slot → SlotView) → new slots.Policy ≡ mid slots.Policy → new slots.Graph ≡ mid slots.Graph → new slots.Capture ≡ mid slots.Capture →
    ReadsToEnd command mid → ReadsToEnd command new
to_end (Ok (Run names options)) mid new policy graph capture (texts, whole) = (texts_to names.graph mid new policy graph texts, subst IsReadWhole (sym capture) whole)
to_end (Ok (Plan names)) mid new policy graph capture texts = texts_to names.graph mid new policy graph texts
to_end (Ok (Demo input options)) mid new policy graph capture h = tt
to_end (Ok (Flows names options)) mid new policy graph capture whole = subst IsReadWhole (sym capture) whole
to_end (Err fault) mid new policy graph capture h = tt
