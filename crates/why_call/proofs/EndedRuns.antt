-- The state after a capture was led through the chains, or that was broken off.
use Rattle.std.proofs.Common.{◌≡◌, ◌≢◌, ◌≤◌, ◌⊎◌, ◌∙◌, inl, inr, ℕ, List, [], ◌∷◌, length, map, refl, ap, sym, subst}
use Rattle.std.specs.Prelude.{count_by, filter_map, Bool, true, false, Option, Some, None, IfErr, IfNone, IfOk, IfSome, IsOk, IsSome, IsSomeAnd, Result, Ok, Err}
use Rattle.std.specs.Option.{option_map}
use Rattle.nfp_outside.specs.declared.slot.Slot.{Slot}
use Rattle.nfp_outside.specs.declared.slot.Slot.TheVariants as slots
use Rattle.nfp_outside.specs.Outside.{SlotView, IsRisen}
use Rattle.capture_bytes.specs.declared.packet.PcapRecord.{PcapRecord}
use Rattle.capture_bytes.specs.declared.packet.Unit.TheVariants.{Nano}
use Rattle.pcap_io.specs.Capture.{Body, capture_of}
use Rattle.pcap_io.specs.declared.capture.CaptureFault.{CaptureFault}
use Rattle.pcap_io.specs.declared.capture.CaptureFault.TheVariants.{BadMagic, BadVersion, BadLink, CutHead, CutRecord, FrameTooLong, TooManyRecords}
use Rattle.pcap_io.specs.declared.capture.CaptureHead.{CaptureHead}
use Rattle.pcapng_io.specs.Blocks.{blocks_of, is_of_first_block, next_of, start}
use Rattle.pcapng_io.specs.declared.fault.NgFault.{NgFault}
use Rattle.pcapng_io.specs.declared.item.NgItem.{NgItem}
use Rattle.pcapng_io.specs.declared.item.NgItem.TheVariants.{Packet, Section, Interface, Carried}
use Rattle.pcapng_io.specs.declared.place.Place.{Place}
use Rattle.capture_items.specs.Formats.{PacketBeside, ng_given, ng_left, ng_stream, pcap_given, pcap_stream}
use Rattle.capture_items.specs.Putting.{risen_earlier}
use Rattle.capture_items.specs.Slots.{IsBroken}
use Rattle.capture_items.specs.Sources.{IsOpeningFault}
use Rattle.capture_items.specs.Streams.{Stream, records_in}
use Rattle.capture_items.specs.declared.fault.FormatFault.{FormatFault}
use Rattle.capture_items.specs.declared.fault.FormatFault.TheVariants as formats
use Rattle.capture_items.specs.declared.fault.RunFault.{RunFault}
use Rattle.capture_items.specs.declared.fault.RunFault.TheVariants as faults
use Rattle.capture_items.specs.declared.totals.Totals.{Totals}
use Rattle.policy_judge.specs.declared.judged.Judged.{Judged}
use Rattle.plain_chains.specs.PacketWays.{ways_of}
use Rattle.plain_chains.specs.declared.chain.PlainChain.{PlainChain}
use Rattle.traced_walk.specs.Ways.{Way}
use Rattle.why_report.specs.Report.{is_gone}
use Rattle.why_run.specs.Running.{ordered_of}
use Rattle.why_run.specs.declared.run.WhyEnded.{WhyEnded}
use Rattle.command_words.specs.WhyWords.{WhyAsked}
use Rattle.call_ending.specs.Endings.{outcome_seen, stop_text, text_of}
use Rattle.call_ending.specs.Left.{HasHead, HasNoOpeningFault, IsFinal, LeavesPrefix, LeavesSlot}
use Rattle.call_ending.specs.Notes.{done_text}
use Rattle.call_ending.specs.Reading.{IsOfFormat, LeavesAll, Opens}
use Rattle.call_ending.specs.Results.{outcome_of}
use Rattle.call_ending.specs.Told.{IsReadWhole, is_ng}
use Rattle.call_ending.specs.declared.ending.Ending.TheVariants.{Stopped}
use Rattle.call_ending.specs.declared.outcome.Outcome.{Outcome}
use Rattle.call_ending.specs.declared.outcome.Outcome.TheVariants.{Done, Usage, Policy, Graph, Capture, CaptureNg, ReadFault, WriteFault, OutOfMemory}
use Rattle.call_ending.specs.declared.read.Opened.{Opened}
use Rattle.call_ending.specs.declared.read.Opened.TheVariants.{Pcap, Ng}
use Rattle.why_call.specs.Answers.{AttachedUnless, FaultAttaches, HasNames, ReadsToEnd, ReportAttaches, WhereRead}
use Rattle.why_call.specs.Due.{WhyDue, chains_judged, due_by_format, due_of_blocks, due_of_capture, due_of_ng, due_of_packets, due_of_pcap, due_of_ways, due_of_why, note_by, packet_of}
use Rattle.why_call.specs.Ending.{IsEndingOf, MissingEnds, TracedEnds}
use Rattle.why_call.specs.Ran.{EndsDue, Ran, why_line, why_outcome}
use Rattle.why_call.specs.Reporting.{IsReady, IsReadyOf, Left, Packets, Tells, packets_left, packets_of, report_led, ways_led}
use Rattle.why_call.specs.declared.ending.WhyEnding.{WhyEnding}
use Rattle.why_call.specs.declared.ending.WhyEnding.TheVariants.{Ended, Traced}
use Rattle.why_call.proofs.EarlyEnds.{HasCause, IsDueHere, Stays, ran_by}
use Rattle.why_call.proofs.HeldBytes.{whole_prefix}
use Rattle.why_call.proofs.Opening.{has_policy, ready_due}
use Rattle.why_call.proofs.OtherSlots.{note_is_not_capture, note_is_not_policy, note_is_not_report, policy_is_not_capture, policy_is_not_report, report_is_not_capture, report_is_not_policy}
use Rattle.why_call.proofs.ReadBytes.{if_told}

-- ---- the packets of a capture

pcap_packets : (rs : List PcapRecord) → records_in (map pcap_given rs) ≡ rs
pcap_packets [] = refl
pcap_packets (r ∷ rs) = ap (λ l. r ∷ l) (pcap_packets rs)

ng_packets : (items : List NgItem) → records_in (map ng_given items) ≡ filter_map packet_of items
ng_packets [] = refl
ng_packets (Packet p ∷ more) = ap (λ l. p.packet ∷ l) (ng_packets more)
ng_packets (Section block ∷ more) = ng_packets more
ng_packets (Interface order block ∷ more) = ng_packets more
ng_packets (Carried block ∷ more) = ng_packets more

-- what is left of an opened capture is what is due for these bytes
pub record IsGiven (left : Option Packets) (bytes : List ℕ) : Type 0 where
  pub given : Packets
  pub is : left ≡ Some given
  pub due : (policy : Judged) (asked : Option ℕ) → due_of_capture policy asked bytes ≡ due_of_packets policy asked given.unit given.packets given.fault
  pub good : HasNoOpeningFault (is_ng bytes) bytes

is_ok : {T : Type 0} (E : Type 0) (x : T) → IsOk {T = T} {E = E} (Ok x)
is_ok E x = cc

pcap_is_given : (head : CaptureHead) (left : Option Body) (bytes : List ℕ) → is_ng bytes ≡ false → IsSomeAnd left (λ body. capture_of bytes ≡ Ok (head, body)) →
    IsGiven (option_map (packets_of head.unit) (option_map pcap_stream left)) bytes
pcap_is_given head None bytes format whole = absurd whole
pcap_is_given head (Some body) bytes format whole = record {
  given = packets_of head.unit (pcap_stream body);
  is = refl;
  due = λ policy asked. ap (λ b. due_by_format b policy asked bytes) format ∙ ap (due_of_pcap policy asked) whole
      ∙ ap (λ rs. due_of_packets policy asked head.unit rs (option_map formats.Pcap body.fault)) (sym (pcap_packets body.records));
  good = subst (λ b. HasNoOpeningFault b bytes) (sym format) (subst IsOk (sym whole) (let opened : CaptureHead × Body = (head, body) in is_ok CaptureFault opened));
}

first_due : (policy : Judged) (asked : Option ℕ) (bytes : List ℕ) (first : Result (Option (NgItem × Place × List ℕ)) NgFault) → IsOk first →
    due_of_ng policy asked bytes first ≡ due_of_blocks policy asked (blocks_of start bytes)
first_due policy asked bytes (Ok x) good = refl
first_due policy asked bytes (Err fault) good = absurd cc

ng_is_given : (left : Option (Stream PacketBeside NgItem)) (bytes : List ℕ) → is_ng bytes ≡ true → left ≡ Some (ng_stream (blocks_of start bytes)) → IsOk (next_of start bytes) →
    IsGiven (option_map (packets_of Nano) left) bytes
ng_is_given left bytes format whole good = record {
  given = packets_of Nano (ng_stream (blocks_of start bytes));
  is = ap (option_map (packets_of Nano)) whole;
  due = λ policy asked. ap (λ b. due_by_format b policy asked bytes) format ∙ first_due policy asked bytes (next_of start bytes) good
      ∙ ap (λ rs. due_of_packets policy asked Nano rs (option_map formats.Ng (blocks_of start bytes).fault)) (sym (ng_packets (blocks_of start bytes).items));
  good = subst (λ b. HasNoOpeningFault b bytes) (sym format) good;
}

opened_is : (opened : Opened) (new : SlotView) (bytes : List ℕ) → IsOfFormat (is_ng bytes) opened → LeavesAll opened new bytes → IsGiven (packets_left opened new) bytes
opened_is (Pcap head reader) new bytes format whole = pcap_is_given head _ bytes format whole
opened_is (Ng source) new bytes format whole = ng_is_given (ng_left source new) bytes format whole.0 whole.1

pub opens_so : (name : List ℕ) (opened : Opened) (old new : SlotView) → Opens name opened old new → IfSome old.bytes (IsGiven (packets_left opened new))
opens_so name opened old new opens = if_told old.bytes _ _ (λ bytes h. opened_is opened new bytes h.0 h.1) opens.whole

-- ---- what is due

abbrev due_led : List PlainChain → Option ℕ → Packets → WhyDue
due_led chains asked p = due_of_ways (ordered_of chains) (ways_led chains p) p.fault asked

ready_same : (policy : Judged) (chains : List PlainChain) (asked : Option ℕ) (p : Packets) → IsReadyOf chains (Ok policy) →
    due_of_packets policy asked p.unit p.packets p.fault ≡ due_led chains asked p
ready_same policy chains asked p ready =
    ap (λ all. due_of_ways all (ways_of (chains_judged policy) p.unit p.packets) p.fault asked) (sym ready.1) ∙ ap (λ c. due_of_ways (ordered_of chains) (ways_of c p.unit p.packets) p.fault asked) (sym ready.0)

told_due : (asked : WhyAsked) (old : Slot → SlotView) (chains : List PlainChain) (left : Option Packets) (P : WhyDue → Type 0) → IsReady (old slots.Policy) chains →
    IfSome (old slots.Capture).bytes (IsGiven left) →
    IfSome left (λ p. P (due_led chains asked.record_number p)) → WhereRead (Ok asked) old (λ p c. P (due_of_why (Ok asked) p c))
told_due asked old chains left P ready told all = ready_due asked old chains P ready
    (λ policy r. if_told (old slots.Capture).bytes _ _
    (λ c is. subst P (sym (is.due policy asked.record_number ∙ ready_same policy chains asked.record_number is.given r)) (subst (λ o. IfSome o (λ p. P (due_led chains asked.record_number p))) is.is all)) told)

has_head : (old : Slot → SlotView) (left : Option Packets) → IfSome (old slots.Capture).bytes (IsGiven left) → HasHead old
has_head old left told = if_told (old slots.Capture).bytes _ _ (λ c is. is.good) told

-- ---- the ending of a capture

stopped_line : (fault : FormatFault) (ways : List Way) (asked : Option ℕ) → stop_text (outcome_of (Some fault)) ≡ note_by ways asked (Some fault) None
stopped_line (formats.Pcap fault) ways (Some n) = refl
stopped_line (formats.Pcap fault) ways None = refl
stopped_line (formats.Ng fault) ways (Some n) = refl
stopped_line (formats.Ng fault) ways None = refl

missing_due : (number : ℕ) (ways : List Way) (ending : WhyEnding) → MissingEnds number ending → IsFinal (why_outcome ending) →
    (why_outcome ending ≡ Done) × (why_line ending ≡ note_by ways (Some number) None None)
missing_due number ways (Traced outcome line) ends final = absurd ends
missing_due number ways (Ended ending) (inl is) final = (ap outcome_seen is, ap text_of is)
missing_due number ways (Ended ending) (inr is) final = absurd (subst (λ e. IsFinal (outcome_seen e)) is final)

traced_due : (totals : Totals) (asked : Option ℕ) (ways : List Way) (fault : Option FormatFault) (trace : Option (List ℕ)) (ending : WhyEnding) → TracedEnds totals asked fault trace ending →
    totals.records ≡ length ways → totals.dropped ≡ count_by (λ way. is_gone way.fate) ways → IsFinal (why_outcome ending) →
    (why_outcome ending ≡ outcome_of fault) × (why_line ending ≡ note_by ways asked fault trace)
traced_due totals asked ways fault (Some text) ending ends read dropped final = (ap why_outcome ends, ap why_line ends)
traced_due totals asked ways (Some fault) None ending ends read dropped final = (ap why_outcome ends, ap why_line ends ∙ stopped_line fault ways asked)
traced_due totals (Some number) ways None None ending ends read dropped final = missing_due number ways ending ends final
traced_due totals None ways None None ending ends read dropped final =
    (ap why_outcome ends, ap why_line ends ∙ ap (λ n. done_text n totals.dropped) read ∙ ap (done_text (length ways)) dropped)

ended_due : (chains : List PlainChain) (asked : Option ℕ) (p : Packets) (ended : WhyEnded) (ending : WhyEnding) (old new : Slot → SlotView) → Tells chains asked p ended →
    TracedEnds ended.totals asked ended.fault ended.trace ending →
    IsFinal (why_outcome ending) → LeavesSlot (Some (report_led chains p)) (old slots.Report) (new slots.Report) → EndsDue (due_led chains asked p) old new (why_outcome ending) (why_line ending)
ended_due chains asked p ended ending old new tells ends final left =
    let both = traced_due ended.totals asked (ways_led chains p) ended.fault ended.trace ending ends tells.read tells.dropped final in
    record {
      answer = both.0 ∙ ap outcome_of tells.same_fault;
      left = left;
      note = both.1 ∙ ap (λ f. note_by (ways_led chains p) asked f ended.trace) tells.same_fault ∙ ap (note_by (ways_led chains p) asked p.fault) tells.trace;
    }

-- ---- the state

-- A capture was to be led through these chains: those of the policy, if the desk shows it, and it was opened.
pub record IsStarted (asked : WhyAsked) (chains : List PlainChain) (left : Option Packets) (old mid : Slot → SlotView) : Type 0 where
  pub free : (s : Slot) → (old s).name ≡ None
  pub policy_name : ((mid slots.Policy).name ≡ None) ⊎ ((mid slots.Policy).name ≡ Some asked.files.policy)
  pub capture_name : ((mid slots.Capture).name ≡ None) ⊎ ((mid slots.Capture).name ≡ Some asked.files.capture)
  pub ready : IsReady (old slots.Policy) chains
  pub told : IfSome (old slots.Capture).bytes (IsGiven left)
  pub whole : IsReadWhole (mid slots.Policy)
  pub later : (old slots.Capture).faults ≤ (mid slots.Capture).faults
  pub before : (s : Slot) → s ≢ slots.Policy → s ≢ slots.Capture → mid s ≡ old s

-- That ended so.
pub record IsLedTo (asked : WhyAsked) (chains : List PlainChain) (left : Option Packets) (mid new : Slot → SlotView) (r : Result WhyEnded RunFault) : Type 0 where
  pub left_so : IfSome left (Left chains asked.record_number (mid slots.Report) (new slots.Report) r)
  pub cause : IfErr r (IsBroken mid new)
  pub kind : IfOk r (λ ended. IfSome ended.fault (λ fault. ¬ IsOpeningFault fault))
  pub drained : IfOk r (λ ended. IfNone ended.fault (IsReadWhole (new slots.Capture)))
  pub attached : IfOk r (λ ended. IsSome (new slots.Report).name)
  pub report_name : ((new slots.Report).name ≡ None) ⊎ ((new slots.Report).name ≡ Some asked.files.report)
  pub capture_stays : (new slots.Capture).name ≡ (mid slots.Capture).name
  pub after : (s : Slot) → s ≢ slots.Report → s ≢ slots.Capture → new s ≡ mid s

same_report : (asked : WhyAsked) (chains : List PlainChain) (left : Option Packets) (old mid : Slot → SlotView) → IsStarted asked chains left old mid → mid slots.Report ≡ old slots.Report
same_report asked chains left old mid started = started.before slots.Report report_is_not_policy report_is_not_capture

left_prefix : (chains : List PlainChain) (asked : Option ℕ) (old new : SlotView) (r : Result WhyEnded RunFault) (p : Packets) → Left chains asked old new r p →
    LeavesPrefix (Some (report_led chains p)) old new
left_prefix chains asked old new (Ok ended) p left = whole_prefix (report_led chains p) old new left.0
left_prefix chains asked old new (Err fault) p left = left

if_packets : (o : Option Packets) (P Q : Packets → Type 0) → ((p : Packets) → P p → Q p) → IfSome o P → IfSome o Q
if_packets None P Q f h = tt
if_packets (Some p) P Q f h = f p h

-- what is left in Report, seen from the start
from_start : (asked : WhyAsked) (chains : List PlainChain) (left : Option Packets) (old mid new : Slot → SlotView) (r : Result WhyEnded RunFault) → IsStarted asked chains left old mid →
    IsLedTo asked chains left mid new r →
    IfSome left (Left chains asked.record_number (old slots.Report) (new slots.Report) r)
from_start asked chains left old mid new r started led =
    subst (λ v. IfSome left (Left chains asked.record_number v (new slots.Report) r)) (same_report asked chains left old mid started) led.left_so

led_names : (asked : WhyAsked) (chains : List PlainChain) (left : Option Packets) (old mid new : Slot → SlotView) (r : Result WhyEnded RunFault) → IsStarted asked chains left old mid →
    IsLedTo asked chains left mid new r → HasNames (Ok asked) new
led_names asked chains left old mid new r started led = names
  where
    still : (s : Slot) → s ≢ slots.Policy → s ≢ slots.Capture → s ≢ slots.Report → (new s).name ≡ None
    still s p c o = ap (λ v. v.name) (led.after s o c ∙ started.before s p c) ∙ started.free s

    policy : ((mid slots.Policy).name ≡ None) ⊎ ((mid slots.Policy).name ≡ Some asked.files.policy) → ((new slots.Policy).name ≡ None) ⊎ ((new slots.Policy).name ≡ Some asked.files.policy)
    policy (inl h) = inl (ap (λ v. v.name) (led.after slots.Policy policy_is_not_report policy_is_not_capture) ∙ h)
    policy (inr h) = inr (ap (λ v. v.name) (led.after slots.Policy policy_is_not_report policy_is_not_capture) ∙ h)

    capture : ((mid slots.Capture).name ≡ None) ⊎ ((mid slots.Capture).name ≡ Some asked.files.capture) → ((new slots.Capture).name ≡ None) ⊎ ((new slots.Capture).name ≡ Some asked.files.capture)
    capture (inl h) = inl (led.capture_stays ∙ h)
    capture (inr h) = inr (led.capture_stays ∙ h)

    names : HasNames (Ok asked) new
    names slots.Policy = policy started.policy_name
    names slots.Capture = capture started.capture_name
    names slots.Report = led.report_name
    names slots.Out = inl (still slots.Out (λ h. cc) (λ h. cc) (λ h. cc))
    names slots.Note = inl (still slots.Note (λ h. cc) (λ h. cc) (λ h. cc))
    names slots.Graph = inl (still slots.Graph (λ h. cc) (λ h. cc) (λ h. cc))

led_stays : (asked : WhyAsked) (chains : List PlainChain) (left : Option Packets) (old mid new : Slot → SlotView) (r : Result WhyEnded RunFault) (outcome : Outcome) →
    IsStarted asked chains left old mid → IsLedTo asked chains left mid new r →
    ReportAttaches outcome (new slots.Report) → Stays (Ok asked) old new outcome
led_stays asked chains left old mid new r outcome started led attaches = record {
  prefix_of = told_due asked old chains left (λ due. LeavesPrefix due.report (old slots.Report) (new slots.Report)) started.ready started.told
      (if_packets left _ _ (λ p h. left_prefix chains asked.record_number (old slots.Report) (new slots.Report) r p h) (from_start asked chains left old mid new r started led));
  names_of = led_names asked chains left old mid new r started led;
  attaches = attaches;
  note = led.after slots.Note note_is_not_report note_is_not_capture ∙ started.before slots.Note note_is_not_policy note_is_not_capture;
  refuses = λ fault e. absurd cc;
}

-- ---- a capture that was led to its end, or to its fault

-- an outcome of a capture
abbrev IsClosing : Outcome → Type 0
IsClosing Done = Unit {0}
IsClosing (Capture fault) = Unit {0}
IsClosing (CaptureNg fault) = Unit {0}
IsClosing (Usage fault) = ⊥
IsClosing (Policy fault) = ⊥
IsClosing (Graph fault) = ⊥
IsClosing (ReadFault s) = ⊥
IsClosing (WriteFault s) = ⊥
IsClosing OutOfMemory = ⊥

closing : (fault : Option FormatFault) → IsClosing (outcome_of fault)
closing None = tt
closing (Some (formats.Pcap fault)) = tt
closing (Some (formats.Ng fault)) = tt

behind_head : (fault : CaptureFault) (report : SlotView) → ¬ IsOpeningFault (formats.Pcap fault) → IsSome report.name → FaultAttaches fault report
behind_head BadMagic report behind named = absurd (behind tt)
behind_head BadVersion report behind named = absurd (behind tt)
behind_head (BadLink link) report behind named = absurd (behind tt)
behind_head CutHead report behind named = absurd (behind tt)
behind_head (CutRecord number) report behind named = named
behind_head (FrameTooLong number length) report behind named = named
behind_head TooManyRecords report behind named = named

behind_first : (first : Bool) (report : SlotView) → ¬ (first ≡ true) → IsSome report.name → AttachedUnless first report
behind_first true report behind named = absurd (behind refl)
behind_first false report behind named = named

closing_attaches : (fault : Option FormatFault) (report : SlotView) → IfSome fault (λ f. ¬ IsOpeningFault f) → IsSome report.name → ReportAttaches (outcome_of fault) report
closing_attaches None report behind named = named
closing_attaches (Some (formats.Pcap fault)) report behind named = behind_head fault report behind named
closing_attaches (Some (formats.Ng fault)) report behind named = behind_first (is_of_first_block fault) report behind named

-- how the call ends: with the outcome of the capture, or it ran out of memory
abbrev EndsSo : Option FormatFault → WhyEnding → Type 0
EndsSo fault ending = (why_outcome ending ≡ outcome_of fault) ⊎ ((why_outcome ending ≡ OutOfMemory) × (why_line ending ≡ []))

missing_so : (number : ℕ) (ending : WhyEnding) → MissingEnds number ending → EndsSo None ending
missing_so number (Traced outcome line) ends = absurd ends
missing_so number (Ended ending) (inl is) = inl (ap outcome_seen is)
missing_so number (Ended ending) (inr is) = inr (ap outcome_seen is, ap text_of is)

ends_so : (totals : Totals) (asked : Option ℕ) (fault : Option FormatFault) (trace : Option (List ℕ)) (ending : WhyEnding) → TracedEnds totals asked fault trace ending → EndsSo fault ending
ends_so totals asked fault (Some text) ending ends = inl (ap why_outcome ends)
ends_so totals asked (Some fault) None ending ends = inl (ap why_outcome ends)
ends_so totals (Some number) None None ending ends = missing_so number ending ends
ends_so totals None None None ending ends = inl (ap why_outcome ends)

read_to_end : (ended : WhyEnded) (new : Slot → SlotView) → IsReadWhole (new slots.Policy) → IfNone ended.fault (IsReadWhole (new slots.Capture)) → outcome_of ended.fault ≡ Done → ReadsToEnd new
read_to_end ended new policy drained done = (policy, go ended.fault drained done)
  where
    go : (fault : Option FormatFault) → IfNone fault (IsReadWhole (new slots.Capture)) → outcome_of fault ≡ Done → IsReadWhole (new slots.Capture)
    go None whole e = whole
    go (Some (formats.Pcap fault)) whole e = absurd cc
    go (Some (formats.Ng fault)) whole e = absurd cc

closing_cause : (asked : WhyAsked) (chains : List PlainChain) (left : Option Packets) (old mid new : Slot → SlotView) (outcome : Outcome) (line : List ℕ) → IsStarted asked chains left old mid →
    IsClosing outcome → (outcome ≡ Done → ReadsToEnd new) →
    IsDueHere (Ok asked) old new outcome line → HasCause (Ok asked) old new outcome line
closing_cause asked chains left old mid new Done line started kind whole due = (has_policy old chains started.ready, whole refl, due)
closing_cause asked chains left old mid new (Capture fault) line started kind whole due = (has_policy old chains started.ready, due)
closing_cause asked chains left old mid new (CaptureNg fault) line started kind whole due = (has_policy old chains started.ready, due)
closing_cause asked chains left old mid new (Usage fault) line started kind whole due = absurd kind
closing_cause asked chains left old mid new (Policy fault) line started kind whole due = absurd kind
closing_cause asked chains left old mid new (Graph fault) line started kind whole due = absurd kind
closing_cause asked chains left old mid new (ReadFault s) line started kind whole due = absurd kind
closing_cause asked chains left old mid new (WriteFault s) line started kind whole due = absurd kind
closing_cause asked chains left old mid new OutOfMemory line started kind whole due = absurd kind

closing_final : (outcome : Outcome) → IsClosing outcome → IsFinal outcome
closing_final Done kind = tt
closing_final (Capture fault) kind = tt
closing_final (CaptureNg fault) kind = tt
closing_final (Usage fault) kind = tt
closing_final (Policy fault) kind = tt
closing_final (Graph fault) kind = tt
closing_final (ReadFault s) kind = kind
closing_final (WriteFault s) kind = kind
closing_final OutOfMemory kind = kind

ok_ran : (asked : WhyAsked) (chains : List PlainChain) (left : Option Packets) (old mid new : Slot → SlotView) (ended : WhyEnded) (ending : WhyEnding) → IsStarted asked chains left old mid →
    IsLedTo asked chains left mid new (Ok ended) →
    TracedEnds ended.totals asked.record_number ended.fault ended.trace ending → EndsSo ended.fault ending → Ran (Ok asked) old new (why_outcome ending) (why_line ending)
ok_ran asked chains left old mid new ended ending started led ends (inl is) =
    let kind : IsClosing (why_outcome ending) = subst IsClosing (sym is) (closing ended.fault) in
    ran_by (Ok asked) old new (why_outcome ending) (why_line ending)
    (led_stays asked chains left old mid new (Ok ended) (why_outcome ending) started led (subst (λ o. ReportAttaches o (new slots.Report)) (sym is) (closing_attaches ended.fault (new slots.Report) led.kind led.attached)))
    (closing_cause asked chains left old mid new (why_outcome ending) (why_line ending) started kind
    (λ done. read_to_end ended new (subst IsReadWhole (sym (led.after slots.Policy policy_is_not_report policy_is_not_capture)) started.whole) led.drained (sym is ∙ done))
    (told_due asked old chains left (λ due. EndsDue due old new (why_outcome ending) (why_line ending)) started.ready started.told
    (if_packets left _ _ (λ p h. ended_due chains asked.record_number p ended ending old new h.1 ends (closing_final (why_outcome ending) kind) h.0)
    (from_start asked chains left old mid new (Ok ended) started led))))
ok_ran asked chains left old mid new ended ending started led ends (inr (is, nothing)) =
    ran_by (Ok asked) old new (why_outcome ending) (why_line ending)
    (led_stays asked chains left old mid new (Ok ended) (why_outcome ending) started led (subst (λ o. ReportAttaches o (new slots.Report)) (sym is) tt))
    (subst (λ o. HasCause (Ok asked) old new o (why_line ending)) (sym is) nothing)

-- ---- a capture that wasn't led to its end

stopped_ran : (asked : WhyAsked) (old new : Slot → SlotView) (outcome : Outcome) (ending : WhyEnding) → ending ≡ Ended (Stopped outcome) → Ran (Ok asked) old new outcome (stop_text outcome) →
    Ran (Ok asked) old new (why_outcome ending) (why_line ending)
stopped_ran asked old new outcome ending is ran = subst (λ e. Ran (Ok asked) old new (why_outcome e) (why_line e)) (sym is) ran

unmade_ran : (asked : WhyAsked) (chains : List PlainChain) (left : Option Packets) (old mid new : Slot → SlotView) (r : Result WhyEnded RunFault) → IsStarted asked chains left old mid →
    IsLedTo asked chains left mid new r →
    Ran (Ok asked) old new OutOfMemory (stop_text OutOfMemory)
unmade_ran asked chains left old mid new r started led = ran_by (Ok asked) old new OutOfMemory [] (led_stays asked chains left old mid new r OutOfMemory started led tt) refl

pub ended_ran : (asked : WhyAsked) (chains : List PlainChain) (left : Option Packets) (old mid new : Slot → SlotView) (r : Result WhyEnded RunFault) (ending : WhyEnding) →
    IsStarted asked chains left old mid → IsLedTo asked chains left mid new r →
    IsEndingOf asked.record_number r ending → Ran (Ok asked) old new (why_outcome ending) (why_line ending)
ended_ran asked chains left old mid new (Ok ended) ending started led ends =
    ok_ran asked chains left old mid new ended ending started led ends (ends_so ended.totals asked.record_number ended.fault ended.trace ending ends)
ended_ran asked chains left old mid new (Err faults.ReadFault) ending started led ends = stopped_ran asked old new (ReadFault slots.Capture) ending ends
    (ran_by (Ok asked) old new (ReadFault slots.Capture) _ (led_stays asked chains left old mid new (Err faults.ReadFault) (ReadFault slots.Capture) started led tt)
    ((has_policy old chains started.ready, risen_earlier (old slots.Capture).faults (mid slots.Capture).faults (new slots.Capture).faults started.later led.cause), refl))
ended_ran asked chains left old mid new (Err (faults.WriteFault slots.Report)) ending started led ends = stopped_ran asked old new (WriteFault slots.Report) ending ends
    (ran_by (Ok asked) old new (WriteFault slots.Report) _ (led_stays asked chains left old mid new (Err (faults.WriteFault slots.Report)) (WriteFault slots.Report) started led tt)
    (((has_policy old chains started.ready, has_head old left started.told), subst (λ v. IsRisen v.faults (new slots.Report).faults) (same_report asked chains left old mid started) led.cause), (λ h. cc), refl))
ended_ran asked chains left old mid new (Err (faults.WriteFault slots.Out)) ending started led ends =
    stopped_ran asked old new OutOfMemory ending ends (unmade_ran asked chains left old mid new (Err (faults.WriteFault slots.Out)) started led)
ended_ran asked chains left old mid new (Err (faults.WriteFault slots.Policy)) ending started led ends = absurd led.cause
ended_ran asked chains left old mid new (Err (faults.WriteFault slots.Capture)) ending started led ends = absurd led.cause
ended_ran asked chains left old mid new (Err (faults.WriteFault slots.Note)) ending started led ends = absurd led.cause
ended_ran asked chains left old mid new (Err (faults.WriteFault slots.Graph)) ending started led ends = absurd led.cause
ended_ran asked chains left old mid new (Err faults.OutOfMemory) ending started led ends =
    stopped_ran asked old new OutOfMemory ending ends (unmade_ran asked chains left old mid new (Err faults.OutOfMemory) started led)
