-- What a call leaves that was to run a capture, and ended before it went through chains.
use Rattle.std.proofs.Common.{◌≡◌, ◌⊎◌, ◌∙◌, inl, ℕ, List, refl, ap, sym, subst}
use Rattle.std.specs.Prelude.{false, true, Some, None, IfSome, Ok, Err}
use Rattle.nfp_outside.specs.declared.slot.Slot.{Slot}
use Rattle.nfp_outside.specs.declared.slot.Slot.TheVariants as slots
use Rattle.nfp_outside.specs.Outside.{SlotView}
use Rattle.capture_items.specs.FaultLines.{capture_text, ng_text}
use Rattle.capture_run.specs.ChainService.{Chains}
use Rattle.command_words.specs.declared.requests.RunOptions.{RunOptions}
use Rattle.command_words.specs.Words.{Names, Run}
use Rattle.pcap_io.specs.Capture.{capture_of}
use Rattle.pcap_io.specs.declared.capture.CaptureFault.{CaptureFault}
use Rattle.pcapng_io.specs.Blocks.{next_of, start}
use Rattle.pcapng_io.specs.declared.fault.NgFault.{NgFault}
use Rattle.nfp_run.specs.Answers.{AttachesDue, HasNames, IsFinal, IsUntouched, NoneAttached, ReachesCapture, ReadFaultCause, WhereRead}
use Rattle.nfp_run.specs.Closing.{EndsDue}
use Rattle.call_ending.specs.Endings.{outcome_seen}
use Rattle.nfp_run.specs.Due.{Due, due_by_format, due_of_capture, due_of_command, due_of_ng, due_of_pcap, nothing_but}
use Rattle.call_ending.specs.Told.{is_ng}
use Rattle.nfp_run.specs.Preparing.{prepared}
use Rattle.nfp_run.specs.Reading.{EndsAtTexts, Serves}
use Rattle.call_ending.specs.Reading.{RefusedOpening}
use Rattle.call_ending.specs.declared.ending.Ending.{Ending}
use Rattle.call_ending.specs.declared.ending.Ending.TheVariants.{Completed, Shown, Refused, GraphRefused, Stopped}
use Rattle.call_ending.specs.declared.outcome.Outcome.{Outcome}
use Rattle.call_ending.specs.declared.outcome.Outcome.TheVariants.{Done, Usage, Policy, Graph, Capture, CaptureNg, ReadFault, WriteFault, OutOfMemory}
use Rattle.nfp_run.proofs.EndedRuns.{has_texts, run_due}
use Rattle.nfp_run.proofs.OtherSlots.{capture_is_not_graph, capture_is_not_policy, note_is_not_graph, note_is_not_policy, out_is_not_graph, out_is_not_policy, report_is_not_graph, report_is_not_policy}
use Rattle.nfp_run.proofs.TextEnds.{Beside, beside_name}
use Rattle.nfp_run.proofs.TextsTold.{if_texts, if_told}

-- ---- at the policy or at the graphs

run_names : (names : Names) (options : RunOptions) (old new : Slot → SlotView) → Beside old new → ((new slots.Policy).name ≡ None) ⊎ ((new slots.Policy).name ≡ Some names.policy) →
    ((new slots.Graph).name ≡ None) ⊎ ((new slots.Graph).name ≡ names.graph) → HasNames (Ok (Run names options)) new
run_names names options old new b policy graph slots.Policy = policy
run_names names options old new b policy graph slots.Graph = graph
run_names names options old new b policy graph slots.Capture = inl (beside_name old new b slots.Capture capture_is_not_policy capture_is_not_graph)
run_names names options old new b policy graph slots.Out = inl (beside_name old new b slots.Out out_is_not_policy out_is_not_graph)
run_names names options old new b policy graph slots.Report = inl (beside_name old new b slots.Report report_is_not_policy report_is_not_graph)
run_names names options old new b policy graph slots.Note = inl (beside_name old new b slots.Note note_is_not_policy note_is_not_graph)

-- an outcome that says nothing about the capture
record IsEarly (command_options : Names × RunOptions) (old new : Slot → SlotView) (e : Ending) : Type 0 where
  attaches : AttachesDue (Ok (Run command_options.0 command_options.1)) (outcome_seen e) new
  reaches : ReachesCapture (Ok (Run command_options.0 command_options.1)) (outcome_seen e) old

early : (names : Names) (options : RunOptions) (old new : Slot → SlotView) (e : Ending) → NoneAttached new → EndsAtTexts names.graph old new e → IsEarly (names, options) old new e
early names options old new (Refused refusal) none h = record { attaches = none; reaches = tt }
early names options old new (GraphRefused refusal) none h = record { attaches = none; reaches = tt }
early names options old new (Stopped (ReadFault slots.Policy)) none h = record { attaches = none; reaches = tt }
early names options old new (Stopped (ReadFault slots.Graph)) none h = record { attaches = none; reaches = tt }
early names options old new (Stopped (ReadFault slots.Capture)) none h = absurd h
early names options old new (Stopped (ReadFault slots.Out)) none h = absurd h
early names options old new (Stopped (ReadFault slots.Report)) none h = absurd h
early names options old new (Stopped (ReadFault slots.Note)) none h = absurd h
early names options old new (Stopped OutOfMemory) none h = record { attaches = tt; reaches = tt }
early names options old new (Stopped Done) none h = absurd h
early names options old new (Stopped (Usage fault)) none h = absurd h
early names options old new (Stopped (Policy fault)) none h = absurd h
early names options old new (Stopped (Graph fault)) none h = absurd h
early names options old new (Stopped (Capture fault)) none h = absurd h
early names options old new (Stopped (CaptureNg fault)) none h = absurd h
early names options old new (Stopped (WriteFault s)) none h = absurd h
early names options old new (Completed totals) none h = absurd h
early names options old new (Shown text) none h = absurd h

-- ---- at the head or at the first block of the capture

-- what is due for a capture that isn't opened
abbrev IsOpeningDue : Outcome → Due → Type 0
IsOpeningDue (Capture fault) due = due ≡ nothing_but (Capture fault) (capture_text fault)
IsOpeningDue (CaptureNg fault) due = due ≡ nothing_but (CaptureNg fault) (ng_text fault)
IsOpeningDue outcome due = ⊥

classic_due : (chains : Chains) (fault : CaptureFault) (c : List ℕ) → (is_ng c ≡ false) × (capture_of c ≡ Err fault) → due_of_capture chains c ≡ nothing_but (Capture fault) (capture_text fault)
classic_due chains fault c is = ap (λ b. due_by_format b chains c) is.0 ∙ ap (due_of_pcap chains) is.1

ng_due : (chains : Chains) (fault : NgFault) (c : List ℕ) → (is_ng c ≡ true) × (next_of start c ≡ Err fault) → due_of_capture chains c ≡ nothing_but (CaptureNg fault) (ng_text fault)
ng_due chains fault c is = ap (λ b. due_by_format b chains c) is.0 ∙ ap (due_of_ng chains c) is.1

opening_due : (chains : Chains) (outcome : Outcome) (old new : Slot → SlotView) → IsFinal outcome → RefusedOpening (old slots.Capture) (new slots.Capture) outcome →
    IfSome (old slots.Capture).bytes (λ c. IsOpeningDue outcome (due_of_capture chains c))
opening_due chains (Capture fault) old new final refused = if_told (old slots.Capture).bytes _ _ (λ c is. classic_due chains fault c is) refused.1
opening_due chains (CaptureNg fault) old new final refused = if_told (old slots.Capture).bytes _ _ (λ c is. ng_due chains fault c is) refused.1
opening_due chains (ReadFault s) old new final refused = absurd final
opening_due chains OutOfMemory old new final refused = absurd final
opening_due chains Done old new final refused = absurd refused
opening_due chains (Usage fault) old new final refused = absurd refused
opening_due chains (Policy fault) old new final refused = absurd refused
opening_due chains (Graph fault) old new final refused = absurd refused
opening_due chains (WriteFault s) old new final refused = absurd refused

opening_ends : (outcome : Outcome) (due : Due) (old new : Slot → SlotView) → IsUntouched (old slots.Out) (new slots.Out) × IsUntouched (old slots.Report) (new slots.Report) →
    IsOpeningDue outcome due → EndsDue due old new (Stopped outcome)
opening_ends (Capture fault) due old new left is = subst (λ d. EndsDue d old new (Stopped (Capture fault))) (sym is) (record { answer = refl; left = left; note = refl })
opening_ends (CaptureNg fault) due old new left is = subst (λ d. EndsDue d old new (Stopped (CaptureNg fault))) (sym is) (record { answer = refl; left = left; note = refl })
opening_ends Done due old new left is = absurd is
opening_ends (Usage fault) due old new left is = absurd is
opening_ends (Policy fault) due old new left is = absurd is
opening_ends (Graph fault) due old new left is = absurd is
opening_ends (ReadFault s) due old new left is = absurd is
opening_ends (WriteFault s) due old new left is = absurd is
opening_ends OutOfMemory due old new left is = absurd is

pub unopened_due : (names : Names) (options : RunOptions) (chains : Chains) (outcome : Outcome) (old new : Slot → SlotView) →
    IsUntouched (old slots.Out) (new slots.Out) × IsUntouched (old slots.Report) (new slots.Report) →
    Serves names.graph old chains → RefusedOpening (old slots.Capture) (new slots.Capture) outcome → IsFinal outcome →
    WhereRead (Ok (Run names options)) old (λ p g c. EndsDue (due_of_command (Ok (Run names options)) p g c) old new (Stopped outcome))
unopened_due names options chains outcome old new left serves refused final = if_texts names.graph old _ _
    (λ p g runs. if_told (old slots.Capture).bytes _ _
    (λ c is. subst (λ d. EndsDue d old new (Stopped outcome)) (sym (run_due (prepared names.graph p g) c chains runs)) (opening_ends outcome (due_of_capture chains c) old new left is))
    (opening_due chains outcome old new final refused))
    serves.runs

pub unopened_reaches : (names : Names) (options : RunOptions) (chains : Chains) (outcome : Outcome) (old new : Slot → SlotView) → Serves names.graph old chains →
    RefusedOpening (old slots.Capture) (new slots.Capture) outcome →
    ReachesCapture (Ok (Run names options)) outcome old
unopened_reaches names options chains (Capture fault) old new serves refused = has_texts names.graph old chains serves
unopened_reaches names options chains (CaptureNg fault) old new serves refused = has_texts names.graph old chains serves
unopened_reaches names options chains (ReadFault s) old new serves refused = tt
unopened_reaches names options chains OutOfMemory old new serves refused = tt
unopened_reaches names options chains Done old new serves refused = absurd refused
unopened_reaches names options chains (Usage fault) old new serves refused = absurd refused
unopened_reaches names options chains (Policy fault) old new serves refused = absurd refused
unopened_reaches names options chains (Graph fault) old new serves refused = absurd refused
unopened_reaches names options chains (WriteFault s) old new serves refused = absurd refused

same_slot : (a c : Slot) → ReadFault a ≡ ReadFault c → a ≡ c
same_slot a c x = cc

pub unopened_read : (names : Names) (options : RunOptions) (chains : Chains) (outcome : Outcome) (old new : Slot → SlotView) (s : Slot) → Serves names.graph old chains →
    RefusedOpening (old slots.Capture) (new slots.Capture) outcome →
    outcome ≡ ReadFault s → ReadFaultCause (Ok (Run names options)) old new s
unopened_read names options chains outcome old new s serves refused is =
    let here : RefusedOpening (old slots.Capture) (new slots.Capture) (ReadFault s) = subst (RefusedOpening (old slots.Capture) (new slots.Capture)) is refused in
    subst (ReadFaultCause (Ok (Run names options)) old new) (sym here.0) (has_texts names.graph old chains serves, here.1)

-- ---- the capture went through chains, or was broken off there
