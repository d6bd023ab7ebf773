-- The state after a capture wasn't opened, behind a policy without fault.
use Rattle.std.proofs.Common.{◌≡◌, ◌≢◌, ◌⊎◌, ◌∙◌, inl, ℕ, List, [], refl, ap, sym, subst}
use Rattle.std.specs.Prelude.{true, false, Option, Some, None, IfSome, IsOk, Result, Ok, Err}
use Rattle.nfp_outside.specs.declared.slot.Slot.{Slot}
use Rattle.nfp_outside.specs.declared.slot.Slot.TheVariants as slots
use Rattle.nfp_outside.specs.Outside.{SlotView}
use Rattle.pcap_io.specs.Capture.{capture_of}
use Rattle.pcap_io.specs.declared.capture.CaptureFault.{CaptureFault}
use Rattle.pcap_io.specs.declared.capture.CaptureFault.TheVariants.{BadMagic, BadVersion, BadLink, CutHead, CutRecord, FrameTooLong, TooManyRecords}
use Rattle.pcapng_io.specs.Blocks.{next_of, start}
use Rattle.pcapng_io.specs.declared.fault.NgFault.{NgFault}
use Rattle.capture_items.specs.FaultLines.{capture_text, ng_text}
use Rattle.capture_items.specs.Sources.{IsOpeningFault}
use Rattle.capture_items.specs.declared.fault.FormatFault.TheVariants as formats
use Rattle.policy_judge.specs.Judging.{judged}
use Rattle.policy_judge.specs.declared.fault.Refusal.{Refusal}
use Rattle.policy_judge.specs.declared.judged.Judged.{Judged}
use Rattle.plain_chains.specs.declared.chain.PlainChain.{PlainChain}
use Rattle.command_words.specs.WhyWords.{WhyAsked}
use Rattle.call_ending.specs.Endings.{stop_text}
use Rattle.call_ending.specs.Left.{HasPolicy, IsUntouched}
use Rattle.call_ending.specs.Notes.{read_fault_text}
use Rattle.call_ending.specs.Reading.{RefusedOpening}
use Rattle.call_ending.specs.Told.{is_ng}
use Rattle.call_ending.specs.declared.outcome.Outcome.{Outcome}
use Rattle.call_ending.specs.declared.outcome.Outcome.TheVariants.{Done, Usage, Policy, Graph, Capture, CaptureNg, ReadFault, WriteFault, OutOfMemory}
use Rattle.why_call.specs.Answers.{AttachedUnless, FaultAttaches, HasNames, IsFree, ReportAttaches}
use Rattle.why_call.specs.Due.{WhyDue, due_by_format, due_of_capture, due_of_judged, due_of_ng, due_of_pcap, due_of_why, nothing_but}
use Rattle.why_call.specs.Ran.{EndsDue, Ran}
use Rattle.why_call.specs.Reporting.{IsReady, IsReadyOf}
use Rattle.why_call.proofs.EarlyEnds.{Stays, ran_by}
use Rattle.why_call.proofs.HeldBytes.{untouched_prefix, untouched_same}
use Rattle.why_call.proofs.OtherSlots.{capture_is_not_policy, note_is_not_capture, note_is_not_policy, policy_is_not_capture, report_is_not_capture, report_is_not_policy}
use Rattle.why_call.proofs.ReadBytes.{if_told, read_always}

-- ---- the policy

is_good : (r : Result Judged Refusal) (chains : List PlainChain) → IsReadyOf chains r → IsOk r
is_good (Ok policy) chains ready = cc
is_good (Err refusal) chains ready = absurd ready

pub has_policy : (old : Slot → SlotView) (chains : List PlainChain) → IsReady (old slots.Policy) chains → HasPolicy old
has_policy old chains ready = if_told (old slots.Policy).bytes _ _ (λ p h. is_good (judged p) chains h) ready

-- a fact about what is due for the capture, if the chains of the policy are ready
pub ready_due : (asked : WhyAsked) (old : Slot → SlotView) (chains : List PlainChain) (P : WhyDue → Type 0) → IsReady (old slots.Policy) chains →
    ((policy : Judged) → IsReadyOf chains (Ok policy) → IfSome (old slots.Capture).bytes (λ c. P (due_of_capture policy asked.record_number c))) →
    IfSome (old slots.Policy).bytes (λ p. IfSome (old slots.Capture).bytes (λ c. P (due_of_why (Ok asked) p c)))
ready_due asked old chains P ready f = if_told (old slots.Policy).bytes _ _ (λ p h. go (judged p) h) ready
  where
    go : (r : Result Judged Refusal) → IsReadyOf chains r → IfSome (old slots.Capture).bytes (λ c. P (due_of_judged asked.record_number r c))
    go (Ok policy) h = f policy h
    go (Err refusal) h = absurd h

-- ---- the capture

-- Only the policy and the capture were touched.
pub record OnlyRead (asked : WhyAsked) (old new : Slot → SlotView) : Type 0 where
  pub free : (s : Slot) → (old s).name ≡ None
  pub policy_name : ((new slots.Policy).name ≡ None) ⊎ ((new slots.Policy).name ≡ Some asked.files.policy)
  pub capture_name : ((new slots.Capture).name ≡ None) ⊎ ((new slots.Capture).name ≡ Some asked.files.capture)
  pub others : (s : Slot) → s ≢ slots.Policy → s ≢ slots.Capture → new s ≡ old s

-- The policy was read, and then the capture was to be opened.
pub record BothRead (asked : WhyAsked) (chains : List PlainChain) (old first new : Slot → SlotView) : Type 0 where
  pub free : (s : Slot) → (old s).name ≡ None
  pub policy_name : ((first slots.Policy).name ≡ None) ⊎ ((first slots.Policy).name ≡ Some asked.files.policy)
  pub after_policy : (s : Slot) → s ≢ slots.Policy → first s ≡ old s
  pub ready : IsReady (old slots.Policy) chains
  pub capture_name : ((new slots.Capture).name ≡ None) ⊎ ((new slots.Capture).name ≡ Some asked.files.capture)
  pub after_capture : (s : Slot) → s ≢ slots.Capture → new s ≡ first s

pub only_read : (asked : WhyAsked) (chains : List PlainChain) (old first new : Slot → SlotView) → BothRead asked chains old first new → OnlyRead asked old new
only_read asked chains old first new both = record {
  free = both.free;
  policy_name = subst (λ v. (v.name ≡ None) ⊎ (v.name ≡ Some asked.files.policy)) (sym (both.after_capture slots.Policy policy_is_not_capture)) both.policy_name;
  capture_name = both.capture_name;
  others = λ s p c. both.after_capture s c ∙ both.after_policy s p;
}

report_untouched : (asked : WhyAsked) (old new : Slot → SlotView) → OnlyRead asked old new → IsUntouched (old slots.Report) (new slots.Report)
report_untouched asked old new only = untouched_same (old slots.Report) (new slots.Report) (only.free slots.Report) (only.others slots.Report report_is_not_policy report_is_not_capture)

report_free : (asked : WhyAsked) (old new : Slot → SlotView) → OnlyRead asked old new → IsFree (new slots.Report)
report_free asked old new only = (report_untouched asked old new only).no_name

only_stays : (asked : WhyAsked) (old new : Slot → SlotView) (outcome : Outcome) → OnlyRead asked old new → ReportAttaches outcome (new slots.Report) → Stays (Ok asked) old new outcome
only_stays asked old new outcome only attaches = record {
  prefix_of = read_always (Ok asked) old _ (λ p c. untouched_prefix (due_of_why (Ok asked) p c).report (old slots.Report) (new slots.Report) (report_untouched asked old new only));
  names_of = names;
  attaches = attaches;
  note = only.others slots.Note note_is_not_policy note_is_not_capture;
  refuses = λ fault e. absurd cc;
}
  where
    still : (s : Slot) → s ≢ slots.Policy → s ≢ slots.Capture → (new s).name ≡ None
    still s p c = ap (λ v. v.name) (only.others s p c) ∙ only.free s

    names : HasNames (Ok asked) new
    names slots.Policy = only.policy_name
    names slots.Capture = only.capture_name
    names slots.Out = inl (still slots.Out (λ h. cc) (λ h. cc))
    names slots.Report = inl (still slots.Report report_is_not_policy report_is_not_capture)
    names slots.Note = inl (still slots.Note note_is_not_policy note_is_not_capture)
    names slots.Graph = inl (still slots.Graph (λ h. cc) (λ h. cc))

head_attaches : (fault : CaptureFault) (report : SlotView) → IsOpeningFault (formats.Pcap fault) → IsFree report → FaultAttaches fault report
head_attaches BadMagic report head free = free
head_attaches BadVersion report head free = free
head_attaches (BadLink link) report head free = free
head_attaches CutHead report head free = free
head_attaches (CutRecord number) report head free = absurd head
head_attaches (FrameTooLong number length) report head free = absurd head
head_attaches TooManyRecords report head free = absurd head

classic_due : (policy : Judged) (asked : Option ℕ) (fault : CaptureFault) (c : List ℕ) → (is_ng c ≡ false) × (capture_of c ≡ Err fault) →
    due_of_capture policy asked c ≡ nothing_but (Capture fault) (capture_text fault)
classic_due policy asked fault c is = ap (λ b. due_by_format b policy asked c) is.0 ∙ ap (due_of_pcap policy asked) is.1

ng_due : (policy : Judged) (asked : Option ℕ) (fault : NgFault) (c : List ℕ) → (is_ng c ≡ true) × (next_of start c ≡ Err fault) →
    due_of_capture policy asked c ≡ nothing_but (CaptureNg fault) (ng_text fault)
ng_due policy asked fault c is = ap (λ b. due_by_format b policy asked c) is.0 ∙ ap (due_of_ng policy asked c) is.1

ends_so : (due : WhyDue) (old new : Slot → SlotView) (outcome : Outcome) (line : List ℕ) → IsUntouched (old slots.Report) (new slots.Report) → due ≡ nothing_but outcome line →
    EndsDue due old new outcome line
ends_so due old new outcome line left is = subst (λ d. EndsDue d old new outcome line) (sym is) (record { answer = refl; left = left; note = refl })

pub unopened_ran : (asked : WhyAsked) (old new : Slot → SlotView) (chains : List PlainChain) (outcome : Outcome) → OnlyRead asked old new → IsReady (old slots.Policy) chains →
    RefusedOpening (old slots.Capture) (new slots.Capture) outcome →
    Ran (Ok asked) old new outcome (stop_text outcome)
unopened_ran asked old new chains (Capture fault) only ready h = ran_by (Ok asked) old new (Capture fault) (capture_text fault)
    (only_stays asked old new (Capture fault) only (head_attaches fault (new slots.Report) h.0 (report_free asked old new only))) (
      has_policy old chains ready,
      ready_due asked old chains (λ due. EndsDue due old new (Capture fault) (capture_text fault)) ready
          (λ policy r. if_told (old slots.Capture).bytes _ _ (λ c is. ends_so (due_of_capture policy asked.record_number c) old new (Capture fault) (capture_text fault) (report_untouched asked old new only) (classic_due policy asked.record_number fault c is)) h.1),
    )
unopened_ran asked old new chains (CaptureNg fault) only ready h = ran_by (Ok asked) old new (CaptureNg fault) (ng_text fault)
    (only_stays asked old new (CaptureNg fault) only (subst (λ first. AttachedUnless first (new slots.Report)) (sym h.0) (report_free asked old new only))) (
      has_policy old chains ready,
      ready_due asked old chains (λ due. EndsDue due old new (CaptureNg fault) (ng_text fault)) ready
          (λ policy r. if_told (old slots.Capture).bytes _ _ (λ c is. ends_so (due_of_capture policy asked.record_number c) old new (CaptureNg fault) (ng_text fault) (report_untouched asked old new only) (ng_due policy asked.record_number fault c is)) h.1),
    )
unopened_ran asked old new chains (ReadFault s) only ready h = subst (λ x. Ran (Ok asked) old new (ReadFault x) (read_fault_text x)) (sym h.0)
    (ran_by (Ok asked) old new (ReadFault slots.Capture) (read_fault_text slots.Capture)
    (only_stays asked old new (ReadFault slots.Capture) only tt)
    ((has_policy old chains ready, h.1), refl))
unopened_ran asked old new chains OutOfMemory only ready h = ran_by (Ok asked) old new OutOfMemory [] (only_stays asked old new OutOfMemory only tt) refl
unopened_ran asked old new chains Done only ready h = absurd h
unopened_ran asked old new chains (Usage fault) only ready h = absurd h
unopened_ran asked old new chains (Policy fault) only ready h = absurd h
unopened_ran asked old new chains (Graph fault) only ready h = absurd h
unopened_ran asked old new chains (WriteFault s) only ready h = absurd h

-- the same from where the policy was read
pub refused_ran : (asked : WhyAsked) (old first new : Slot → SlotView) (chains : List PlainChain) (outcome : Outcome) → BothRead asked chains old first new →
    RefusedOpening (first slots.Capture) (new slots.Capture) outcome →
    Ran (Ok asked) old new outcome (stop_text outcome)
refused_ran asked old first new chains outcome both h = unopened_ran asked old new chains outcome (only_read asked chains old first new both) both.ready
    (subst (λ v. RefusedOpening v (new slots.Capture) outcome) (both.after_policy slots.Capture capture_is_not_policy) h)
