-- The names of the slots, what is attached, and the causes of an outcome, after the line of a call was put into Note.
use Rattle.std.proofs.Common.{◌≡◌, ◌≢◌, ◌⊎◌, ◌∙◌, inl, inr, refl, ap, sym, subst}
use Rattle.std.specs.Prelude.{Bool, true, false, None, IsSome, Result, Ok, Err}
use Rattle.nfp_outside.specs.declared.slot.Slot.{Slot}
use Rattle.nfp_outside.specs.declared.slot.Slot.TheVariants as slots
use Rattle.nfp_outside.specs.Outside.{SlotView, IsRisen}
use Rattle.pcap_io.specs.declared.capture.CaptureFault.{CaptureFault}
use Rattle.pcap_io.specs.declared.capture.CaptureFault.TheVariants.{BadMagic, BadVersion, BadLink, CutHead, CutRecord, FrameTooLong, TooManyRecords}
use Rattle.pcapng_io.specs.Blocks.{is_of_first_block}
use Rattle.call_ending.specs.declared.outcome.Outcome.{Outcome}
use Rattle.call_ending.specs.declared.outcome.Outcome.TheVariants.{Done, Usage, Policy, Graph, Capture, CaptureNg, ReadFault, WriteFault, OutOfMemory}
use Rattle.graph_text.specs.declared.fault.GraphFault.{GraphFault}
use Rattle.policy_judge.specs.declared.fault.PolicyFault.{PolicyFault}
use Rattle.call_ending.specs.declared.ending.Ending.{Ending}
use Rattle.command_words.specs.declared.usage.UsageFault.{UsageFault}
use Rattle.command_words.specs.Words.{Command, Run, Plan, Demo, Flows}
use Rattle.call_ending.specs.Endings.{outcome_seen, untold, Notes}
use Rattle.nfp_run.specs.Due.{due_of_command}
use Rattle.nfp_run.specs.Answers.{IsDue, WhereRead, HasNames, name_of, BothAttached, NoneAttached, OutAttached, FaultAttaches, FaultAttachesOut, FlowsAttach, AttachedUnless, ReportBehindOut, RunAttaches, AttachesDue, ReachesCapture, ReadsToEnd, PolicyCause, GraphCause, ReadFaultCause, WriteFaultCause}
use Rattle.nfp_run.proofs.ReadToEnd.{to_end}
use Rattle.nfp_run.proofs.CallAnswers.{Called, called_done, policy_beside, capture_beside, graph_beside, out_beside, report_beside}

-- the names of Out and Report stay while the line is put into Note
none_to : (mid new : Slot → SlotView) → new slots.Out ≡ mid slots.Out → new slots.Report ≡ mid slots.Report → NoneAttached mid → NoneAttached new
none_to mid new p q none = (ap (λ v. v.name) p ∙ none.0, ap (λ v. v.name) q ∙ none.1)

out_to : (mid new : Slot → SlotView) → new slots.Out ≡ mid slots.Out → IsSome (mid slots.Out).name → IsSome (new slots.Out).name
out_to mid new p some = subst (λ v. IsSome v.name) (sym p) some

both_to : (mid new : Slot → SlotView) → new slots.Out ≡ mid slots.Out → new slots.Report ≡ mid slots.Report → BothAttached mid → BothAttached new
both_to mid new p q both = (out_to mid new p both.0, subst (λ v. IsSome v.name) (sym q) both.1)

fault_to : (fault : CaptureFault) (mid new : Slot → SlotView) → new slots.Out ≡ mid slots.Out → new slots.Report ≡ mid slots.Report → FaultAttaches fault mid → FaultAttaches fault new
fault_to BadMagic mid new p q h = none_to mid new p q h
fault_to BadVersion mid new p q h = none_to mid new p q h
fault_to (BadLink link) mid new p q h = none_to mid new p q h
fault_to CutHead mid new p q h = none_to mid new p q h
fault_to (CutRecord number) mid new p q h = both_to mid new p q h
fault_to (FrameTooLong number length) mid new p q h = both_to mid new p q h
fault_to TooManyRecords mid new p q h = both_to mid new p q h

unless_to : (first : Bool) (mid new : Slot → SlotView) → new slots.Out ≡ mid slots.Out → new slots.Report ≡ mid slots.Report → AttachedUnless first mid → AttachedUnless first new
unless_to true mid new p q h = none_to mid new p q h
unless_to false mid new p q h = both_to mid new p q h

run_to : (outcome : Outcome) (mid new : Slot → SlotView) → new slots.Out ≡ mid slots.Out → new slots.Report ≡ mid slots.Report → RunAttaches outcome mid → RunAttaches outcome new
run_to Done mid new p q h = both_to mid new p q h
run_to (Usage fault) mid new p q h = none_to mid new p q h
run_to (Policy fault) mid new p q h = none_to mid new p q h
run_to (Graph fault) mid new p q h = none_to mid new p q h
run_to (Capture fault) mid new p q h = fault_to fault mid new p q h
run_to (CaptureNg fault) mid new p q h = unless_to (is_of_first_block fault) mid new p q h
run_to (ReadFault slots.Policy) mid new p q h = none_to mid new p q h
run_to (ReadFault slots.Capture) mid new p q h = tt
run_to (ReadFault slots.Out) mid new p q h = tt
run_to (ReadFault slots.Report) mid new p q h = tt
run_to (ReadFault slots.Note) mid new p q h = tt
run_to (ReadFault slots.Graph) mid new p q h = none_to mid new p q h
run_to (WriteFault slots.Note) mid new p q h = both_to mid new p q h
run_to (WriteFault slots.Report) mid new p q h = out_to mid new p h
run_to (WriteFault slots.Out) mid new p q h = tt
run_to (WriteFault slots.Policy) mid new p q h = tt
run_to (WriteFault slots.Capture) mid new p q h = tt
run_to (WriteFault slots.Graph) mid new p q h = tt
run_to OutOfMemory mid new p q h = tt

alone_to : (mid new : Slot → SlotView) → new slots.Out ≡ mid slots.Out → new slots.Report ≡ mid slots.Report → OutAttached mid → OutAttached new
alone_to mid new p q alone = (out_to mid new p alone.0, ap (λ v. v.name) q ∙ alone.1)

fault_to_out : (fault : CaptureFault) (mid new : Slot → SlotView) → new slots.Out ≡ mid slots.Out → new slots.Report ≡ mid slots.Report → FaultAttachesOut fault mid → FaultAttachesOut fault new
fault_to_out BadMagic mid new p q h = none_to mid new p q h
fault_to_out BadVersion mid new p q h = none_to mid new p q h
fault_to_out (BadLink link) mid new p q h = none_to mid new p q h
fault_to_out CutHead mid new p q h = none_to mid new p q h
fault_to_out (CutRecord number) mid new p q h = alone_to mid new p q h
fault_to_out (FrameTooLong number length) mid new p q h = alone_to mid new p q h
fault_to_out TooManyRecords mid new p q h = alone_to mid new p q h

flows_to : (outcome : Outcome) (mid new : Slot → SlotView) → new slots.Out ≡ mid slots.Out → new slots.Report ≡ mid slots.Report → FlowsAttach outcome mid → FlowsAttach outcome new
flows_to Done mid new p q h = alone_to mid new p q h
flows_to (Usage fault) mid new p q h = none_to mid new p q h
flows_to (Policy fault) mid new p q h = none_to mid new p q h
flows_to (Graph fault) mid new p q h = none_to mid new p q h
flows_to (Capture fault) mid new p q h = fault_to_out fault mid new p q h
flows_to (CaptureNg fault) mid new p q h = none_to mid new p q h
flows_to (ReadFault s) mid new p q h = ap (λ v. v.name) q ∙ h
flows_to (WriteFault slots.Note) mid new p q h = alone_to mid new p q h
flows_to (WriteFault slots.Report) mid new p q h = ap (λ v. v.name) q ∙ h
flows_to (WriteFault slots.Out) mid new p q h = ap (λ v. v.name) q ∙ h
flows_to (WriteFault slots.Policy) mid new p q h = ap (λ v. v.name) q ∙ h
flows_to (WriteFault slots.Capture) mid new p q h = ap (λ v. v.name) q ∙ h
flows_to (WriteFault slots.Graph) mid new p q h = ap (λ v. v.name) q ∙ h
flows_to OutOfMemory mid new p q h = ap (λ v. v.name) q ∙ h

attaches_to : (command : Result Command UsageFault) (outcome : Outcome) (mid new : Slot → SlotView) → new slots.Out ≡ mid slots.Out → new slots.Report ≡ mid slots.Report →
    AttachesDue command outcome mid → AttachesDue command outcome new
attaches_to (Ok (Run names options)) outcome mid new p q h = run_to outcome mid new p q h
attaches_to (Ok (Plan name)) outcome mid new p q h = none_to mid new p q h
attaches_to (Ok (Demo input options)) outcome mid new p q h = none_to mid new p q h
attaches_to (Ok (Flows names options)) outcome mid new p q h = flows_to outcome mid new p q h
attaches_to (Err fault) outcome mid new p q h = none_to mid new p q h

-- flows never attach Report, except that a head's fault names both
no_report : (outcome : Outcome) (new : Slot → SlotView) → FlowsAttach outcome new → (new slots.Report).name ≡ None
no_report Done new h = h.1
no_report (Usage fault) new h = h.1
no_report (Policy fault) new h = h.1
no_report (Graph fault) new h = h.1
no_report (Capture BadMagic) new h = h.1
no_report (Capture BadVersion) new h = h.1
no_report (Capture (BadLink link)) new h = h.1
no_report (Capture CutHead) new h = h.1
no_report (Capture (CutRecord number)) new h = h.1
no_report (Capture (FrameTooLong number length)) new h = h.1
no_report (Capture TooManyRecords) new h = h.1
no_report (CaptureNg fault) new h = h.1
no_report (ReadFault s) new h = h
no_report (WriteFault slots.Note) new h = h.1
no_report (WriteFault slots.Report) new h = h
no_report (WriteFault slots.Out) new h = h
no_report (WriteFault slots.Policy) new h = h
no_report (WriteFault slots.Capture) new h = h
no_report (WriteFault slots.Graph) new h = h
no_report OutOfMemory new h = h

-- the same if it ran out of memory, or the line couldn't be put
attaches_unmade : (command : Result Command UsageFault) (outcome : Outcome) (new : Slot → SlotView) → AttachesDue command outcome new → AttachesDue command OutOfMemory new
attaches_unmade (Ok (Run names options)) outcome new h = tt
attaches_unmade (Ok (Plan name)) outcome new h = h
attaches_unmade (Ok (Demo input options)) outcome new h = h
attaches_unmade (Ok (Flows names options)) outcome new h = no_report outcome new h
attaches_unmade (Err fault) outcome new h = h

run_untold : (outcome : Outcome) (new : Slot → SlotView) → RunAttaches outcome new → RunAttaches (untold outcome) new
run_untold Done new h = h
run_untold (Usage fault) new h = h
run_untold (Policy fault) new h = h
run_untold (Graph fault) new h = h
run_untold (Capture fault) new h = h
run_untold (CaptureNg fault) new h = h
run_untold (ReadFault s) new h = h
run_untold (WriteFault s) new h = h
run_untold OutOfMemory new h = h

flows_untold : (outcome : Outcome) (new : Slot → SlotView) → FlowsAttach outcome new → FlowsAttach (untold outcome) new
flows_untold Done new h = h
flows_untold (Usage fault) new h = h
flows_untold (Policy fault) new h = h
flows_untold (Graph fault) new h = h
flows_untold (Capture fault) new h = h
flows_untold (CaptureNg fault) new h = h
flows_untold (ReadFault s) new h = h
flows_untold (WriteFault s) new h = h
flows_untold OutOfMemory new h = h

attaches_untold : (command : Result Command UsageFault) (outcome : Outcome) (new : Slot → SlotView) → AttachesDue command outcome new → AttachesDue command (untold outcome) new
attaches_untold (Ok (Run names options)) outcome new h = run_untold outcome new h
attaches_untold (Ok (Plan name)) outcome new h = h
attaches_untold (Ok (Demo input options)) outcome new h = h
attaches_untold (Ok (Flows names options)) outcome new h = flows_untold outcome new h
attaches_untold (Err fault) outcome new h = h

-- what is known about the policy if it ran out of memory, or the line couldn't be put
pub reaches_unmade : (command : Result Command UsageFault) (old : Slot → SlotView) → ReachesCapture command OutOfMemory old
reaches_unmade (Ok (Run names options)) old = tt
reaches_unmade (Ok (Plan name)) old = tt
reaches_unmade (Ok (Demo input options)) old = tt
reaches_unmade (Ok (Flows names options)) old = tt
reaches_unmade (Err fault) old = tt

reaches_note : (command : Result Command UsageFault) (old : Slot → SlotView) → ReachesCapture command (WriteFault slots.Note) old
reaches_note (Ok (Run names options)) old = tt
reaches_note (Ok (Plan name)) old = tt
reaches_note (Ok (Demo input options)) old = tt
reaches_note (Ok (Flows names options)) old = tt
reaches_note (Err fault) old = tt

reaches_untold : (command : Result Command UsageFault) (outcome : Outcome) (old : Slot → SlotView) → ReachesCapture command outcome old → ReachesCapture command (untold outcome) old
reaches_untold command Done old h = reaches_note command old
reaches_untold command (Usage fault) old h = h
reaches_untold command (Policy fault) old h = h
reaches_untold command (Graph fault) old h = h
reaches_untold command (Capture fault) old h = h
reaches_untold command (CaptureNg fault) old h = h
reaches_untold command (ReadFault s) old h = h
reaches_untold command (WriteFault s) old h = h
reaches_untold command OutOfMemory old h = h

note_name : (ended : Ending) (result : Outcome) (old new : SlotView) → Notes ended old new result → new.name ≡ old.name
note_name ended result old new (inl (is, a)) = a.same_name
note_name ended result old new (inr (inl (is, a))) = a.appended.same_name
note_name ended result old new (inr (inr (is, r, a))) = a.appended.same_name

pub called_names : (command : Result Command UsageFault) (old mid new : Slot → SlotView) (ended : Ending) (result : Outcome) → Called command old mid new ended result → HasNames command new
called_names command old mid new ended result called = go command called.ran.names_are
  where
    same : (s : Slot) → (new s).name ≡ (mid s).name
    same slots.Policy = ap (λ v. v.name) (called.beside slots.Policy policy_beside)
    same slots.Capture = ap (λ v. v.name) (called.beside slots.Capture capture_beside)
    same slots.Graph = ap (λ v. v.name) (called.beside slots.Graph graph_beside)
    same slots.Out = ap (λ v. v.name) (called.beside slots.Out out_beside)
    same slots.Report = ap (λ v. v.name) (called.beside slots.Report report_beside)
    same slots.Note = note_name ended result (mid slots.Note) (new slots.Note) called.notes

    one : (n : Command) (s : Slot) → ((mid s).name ≡ None) ⊎ ((mid s).name ≡ name_of n s) → ((new s).name ≡ None) ⊎ ((new s).name ≡ name_of n s)
    one n s (inl h) = inl (same s ∙ h)
    one n s (inr h) = inr (same s ∙ h)

    go : (n : Result Command UsageFault) → HasNames n mid → HasNames n new
    go (Err fault) h = λ s. same s ∙ h s
    go (Ok n) h = λ s. one n s (h s)

-- an outcome that isn't Note's own was there before
untold_seen : (seen o : Outcome) → untold seen ≡ o → o ≢ WriteFault slots.Note → seen ≡ o
untold_seen Done o e other = absurd (other (sym e))
untold_seen (Usage fault) o e other = e
untold_seen (Policy fault) o e other = e
untold_seen (Graph fault) o e other = e
untold_seen (Capture fault) o e other = e
untold_seen (CaptureNg fault) o e other = e
untold_seen (ReadFault s) o e other = e
untold_seen (WriteFault s) o e other = e
untold_seen OutOfMemory o e other = e

seen_before : (ended : Ending) (result o : Outcome) (old new : SlotView) → Notes ended old new result → result ≡ o → o ≢ OutOfMemory → o ≢ WriteFault slots.Note → outcome_seen ended ≡ o
seen_before ended result o old new (inl (is, a)) e some other = sym is ∙ e
seen_before ended result o old new (inr (inl (is, a))) e some other = absurd (some (sym e ∙ is))
seen_before ended result o old new (inr (inr (is, r, a))) e some other = untold_seen (outcome_seen ended) o (sym is ∙ e) other

pub called_usage_always : (command : Result Command UsageFault) (old mid new : Slot → SlotView) (ended : Ending) (result : Outcome) → Called command old mid new ended result →
    (fault : UsageFault) → command ≡ Err fault → (result ≡ Usage fault) ⊎ (result ≡ OutOfMemory)
called_usage_always command old mid new ended result called fault e = by_notes called.notes
  where
    seen : (outcome_seen ended ≡ Usage fault) ⊎ (outcome_seen ended ≡ OutOfMemory)
    seen = called.ran.usage_always fault e

    by_notes : Notes ended (mid slots.Note) (new slots.Note) result → (result ≡ Usage fault) ⊎ (result ≡ OutOfMemory)
    by_notes (inl (is, a)) = elim seen [ inl u ↦ inl (is ∙ u) | inr m ↦ inr (is ∙ m) ]
    by_notes (inr (inl (is, a))) = inr is
    by_notes (inr (inr (is, r, a))) = elim seen [ inl u ↦ inl (is ∙ ap untold u) | inr m ↦ inr (is ∙ ap untold m) ]

pub called_read_whole : (command : Result Command UsageFault) (old mid new : Slot → SlotView) (ended : Ending) (result : Outcome) → Called command old mid new ended result → result ≡ Done →
    ReadsToEnd command new
called_read_whole command old mid new ended result called e =
    to_end command mid new (called.beside slots.Policy policy_beside) (called.beside slots.Graph graph_beside) (called.beside slots.Capture capture_beside)
    (called.ran.drained (seen_before ended result Done (mid slots.Note) (new slots.Note) called.notes e (λ h. cc) (λ h. cc)))

capture_name : (mid new : Slot → SlotView) → new slots.Capture ≡ mid slots.Capture → (mid slots.Capture).name ≡ None → (new slots.Capture).name ≡ None
capture_name mid new p h = ap (λ v. v.name) p ∙ h

pub called_refused : (command : Result Command UsageFault) (old mid new : Slot → SlotView) (ended : Ending) (result : Outcome) → Called command old mid new ended result →
    (fault : PolicyFault) → result ≡ Policy fault → PolicyCause command old new fault
called_refused command old mid new ended result called fault e =
    let cause = called.ran.refused fault (seen_before ended result (Policy fault) (mid slots.Note) (new slots.Note) called.notes e (λ h. cc) (λ h. cc)) in
    (cause.0, cause.1, capture_name mid new (called.beside slots.Capture capture_beside) cause.2)

pub called_graph_refused : (command : Result Command UsageFault) (old mid new : Slot → SlotView) (ended : Ending) (result : Outcome) → Called command old mid new ended result →
    (fault : GraphFault) → result ≡ Graph fault → GraphCause command old new fault
called_graph_refused command old mid new ended result called fault e =
    let cause = called.ran.graph_refused fault (seen_before ended result (Graph fault) (mid slots.Note) (new slots.Note) called.notes e (λ h. cc) (λ h. cc)) in
    record {
      name = cause.name;
      named = cause.named;
      policy = cause.policy;
      told = cause.told;
      no_capture = capture_name mid new (called.beside slots.Capture capture_beside) cause.no_capture;
    }

read_to : (command : Result Command UsageFault) (old mid new : Slot → SlotView) (s : Slot) → ((x : Slot) → x ≢ slots.Note → new x ≡ mid x) → ReadFaultCause command old mid s →
    ReadFaultCause command old new s
read_to command old mid new slots.Policy beside h =
    (h.0, subst (λ v. IsRisen (old slots.Policy).faults v.faults) (sym (beside slots.Policy policy_beside)) h.1, capture_name mid new (beside slots.Capture capture_beside) h.2)
read_to command old mid new slots.Capture beside h = (h.0, subst (λ v. IsRisen (old slots.Capture).faults v.faults) (sym (beside slots.Capture capture_beside)) h.1)
read_to command old mid new slots.Out beside h = h
read_to command old mid new slots.Report beside h = h
read_to command old mid new slots.Note beside h = h
read_to command old mid new slots.Graph beside h = record {
  name = h.name;
  named = h.named;
  policy = h.policy;
  risen = subst (λ v. IsRisen (old slots.Graph).faults v.faults) (sym (beside slots.Graph graph_beside)) h.risen;
  no_capture = capture_name mid new (beside slots.Capture capture_beside) h.no_capture;
}

pub called_read_faults : (command : Result Command UsageFault) (old mid new : Slot → SlotView) (ended : Ending) (result : Outcome) → Called command old mid new ended result →
    (s : Slot) → result ≡ ReadFault s → ReadFaultCause command old new s
called_read_faults command old mid new ended result called s e = read_to command old mid new s called.beside
    (called.ran.read_faults s (seen_before ended result (ReadFault s) (mid slots.Note) (new slots.Note) called.notes e (λ h. cc) (λ h. cc)))

-- Note's fault takes the place of work that was done
untold_done : (seen : Outcome) → untold seen ≡ WriteFault slots.Note → (seen ≡ WriteFault slots.Note → ⊥) → seen ≡ Done
untold_done Done e none = refl
untold_done (Usage fault) e none = absurd (none e)
untold_done (Policy fault) e none = absurd (none e)
untold_done (Graph fault) e none = absurd (none e)
untold_done (Capture fault) e none = absurd (none e)
untold_done (CaptureNg fault) e none = absurd (none e)
untold_done (ReadFault s) e none = absurd (none e)
untold_done (WriteFault s) e none = absurd (none e)
untold_done OutOfMemory e none = absurd (none e)

pub called_write_faults : (command : Result Command UsageFault) (old mid new : Slot → SlotView) (ended : Ending) (result : Outcome) → Called command old mid new ended result →
    (s : Slot) → result ≡ WriteFault s → WriteFaultCause command old new s
called_write_faults command old mid new ended result called slots.Out e =
    let cause = called.ran.write_faults slots.Out (seen_before ended result (WriteFault slots.Out) (mid slots.Note) (new slots.Note) called.notes e (λ h. cc) (λ h. cc)) in
    (cause.0, subst (λ v. IsRisen (old slots.Out).faults v.faults) (sym (called.beside slots.Out out_beside)) cause.1)
called_write_faults command old mid new ended result called slots.Report e =
    let cause = called.ran.write_faults slots.Report (seen_before ended result (WriteFault slots.Report) (mid slots.Note) (new slots.Note) called.notes e (λ h. cc) (λ h. cc)) in
    (cause.0, subst (λ v. IsRisen (old slots.Report).faults v.faults) (sym (called.beside slots.Report report_beside)) cause.1)
called_write_faults command old mid new ended result called slots.Policy e =
    called.ran.write_faults slots.Policy (seen_before ended result (WriteFault slots.Policy) (mid slots.Note) (new slots.Note) called.notes e (λ h. cc) (λ h. cc))
called_write_faults command old mid new ended result called slots.Capture e =
    called.ran.write_faults slots.Capture (seen_before ended result (WriteFault slots.Capture) (mid slots.Note) (new slots.Note) called.notes e (λ h. cc) (λ h. cc))
called_write_faults command old mid new ended result called slots.Graph e =
    called.ran.write_faults slots.Graph (seen_before ended result (WriteFault slots.Graph) (mid slots.Note) (new slots.Note) called.notes e (λ h. cc) (λ h. cc))
called_write_faults command old mid new ended result called slots.Note e = by_notes called.notes
  where
    by_notes : Notes ended (mid slots.Note) (new slots.Note) result → WriteFaultCause command old new slots.Note
    by_notes (inl (is, a)) = absurd (called.ran.no_note_fault (sym is ∙ e))
    by_notes (inr (inl (is, a))) = let h : OutOfMemory ≡ WriteFault slots.Note = sym is ∙ e in absurd cc
    by_notes (inr (inr (is, r, a))) = (
      subst (λ v. IsRisen v.faults (new slots.Note).faults) called.ran.note_stays r,
      subst (λ o. ReachesCapture command o old) (untold_done (outcome_seen ended) (sym is ∙ e) called.ran.no_note_fault) called.ran.policy,
    )

pub called_note_fault : (command : Result Command UsageFault) (old mid new : Slot → SlotView) (ended : Ending) (result : Outcome) → Called command old mid new ended result →
    result ≡ WriteFault slots.Note → WhereRead command old (λ p g c. IsDue (due_of_command command p g c) old new Done)
called_note_fault command old mid new ended result called e = by_notes called.notes
  where
    by_notes : Notes ended (mid slots.Note) (new slots.Note) result → WhereRead command old (λ p g c. IsDue (due_of_command command p g c) old new Done)
    by_notes (inl (is, a)) = absurd (called.ran.no_note_fault (sym is ∙ e))
    by_notes (inr (inl (is, a))) = let h : OutOfMemory ≡ WriteFault slots.Note = sym is ∙ e in absurd cc
    by_notes (inr (inr (is, r, a))) =
        let done = untold_done (outcome_seen ended) (sym is ∙ e) called.ran.no_note_fault in
        called_done command old mid new ended Done called done (sym done)

-- Report is attached only behind Out, before the line and after it
pub called_report_behind : (command : Result Command UsageFault) (old mid new : Slot → SlotView) (ended : Ending) (result : Outcome) → Called command old mid new ended result → ReportBehindOut new
called_report_behind command old mid new ended result called = by called.ran.report_behind
  where
    by : ReportBehindOut mid → ReportBehindOut new
    by (inl free) = inl (ap (λ v. v.name) (called.beside slots.Report report_beside) ∙ free)
    by (inr out) = inr (subst (λ v. IsSome v.name) (sym (called.beside slots.Out out_beside)) out)

pub called_attached : (command : Result Command UsageFault) (old mid new : Slot → SlotView) (ended : Ending) (result : Outcome) → Called command old mid new ended result →
    AttachesDue command result new
called_attached command old mid new ended result called = by_notes called.notes
  where
    here : AttachesDue command (outcome_seen ended) new
    here = attaches_to command (outcome_seen ended) mid new (called.beside slots.Out out_beside) (called.beside slots.Report report_beside) called.ran.attached

    by_notes : Notes ended (mid slots.Note) (new slots.Note) result → AttachesDue command result new
    by_notes (inl (is, a)) = subst (λ o. AttachesDue command o new) (sym is) here
    by_notes (inr (inl (is, a))) = subst (λ o. AttachesDue command o new) (sym is) (attaches_unmade command (outcome_seen ended) new here)
    by_notes (inr (inr (is, r, a))) = subst (λ o. AttachesDue command o new) (sym is) (attaches_untold command (outcome_seen ended) new here)

pub called_policy : (command : Result Command UsageFault) (old mid new : Slot → SlotView) (ended : Ending) (result : Outcome) → Called command old mid new ended result →
    ReachesCapture command result old
called_policy command old mid new ended result called = by_notes called.notes
  where
    by_notes : Notes ended (mid slots.Note) (new slots.Note) result → ReachesCapture command result old
    by_notes (inl (is, a)) = subst (λ o. ReachesCapture command o old) (sym is) called.ran.policy
    by_notes (inr (inl (is, a))) = subst (λ o. ReachesCapture command o old) (sym is) (reaches_unmade command old)
    by_notes (inr (inr (is, r, a))) = subst (λ o. ReachesCapture command o old) (sym is) (reaches_untold command (outcome_seen ended) old called.ran.policy)
