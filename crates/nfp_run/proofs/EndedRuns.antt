-- What a call that ran a capture leaves, before its line is put into Note.
use Rattle.std.proofs.Common.{◌≡◌, ◌∙◌, ◌⊎◌, inr, ℕ, List, refl, ap, rules, sym, subst}
use Rattle.std.specs.Prelude.{length, count_by, true, false, Option, Some, None, IfErr, IfSome, IsSomeAnd, IsOk, Result, Ok, Err}
use Rattle.std.specs.Option.{option_map}
use Rattle.nfp_outside.specs.declared.slot.Slot.{Slot}
use Rattle.nfp_outside.specs.declared.slot.Slot.TheVariants as slots
use Rattle.nfp_outside.specs.Outside.{SlotView, IsRisen}
use Rattle.pcap_io.specs.Capture.{Body, capture_of}
use Rattle.pcap_io.specs.Reader.{body_left}
use Rattle.pcap_io.specs.declared.capture.CaptureFault.{CaptureFault}
use Rattle.pcap_io.specs.declared.capture.CaptureHead.{CaptureHead}
use Rattle.pcapng_io.specs.Blocks.{blocks_of, next_of, start}
use Rattle.pcapng_io.specs.declared.fault.NgFault.{NgFault}
use Rattle.pcapng_io.specs.declared.item.NgItem.{NgItem}
use Rattle.pcapng_io.specs.declared.place.Place.{Place}
use Rattle.chain_walk.specs.declared.walk.Fate.{Fate}
use Rattle.command_words.specs.declared.requests.RunOptions.{RunOptions}
use Rattle.command_words.specs.Words.{Names, Run}
use Rattle.capture_run.specs.ChainService.{Chains}
use Rattle.capture_run.specs.CaptureReportProofs.{Ended}
use Rattle.capture_items.specs.declared.totals.Totals.{Totals}
use Rattle.capture_items.specs.declared.fault.RunFault.{RunFault}
use Rattle.capture_items.specs.declared.fault.RunFault.TheVariants as faults
use Rattle.capture_run.specs.CaptureReport.{is_gone}
use Rattle.capture_items.specs.declared.fault.FormatFault.{FormatFault}
use Rattle.capture_items.specs.declared.fault.FormatFault.TheVariants as formats
use Rattle.capture_items.specs.Formats.{PacketBeside, ng_left, ng_stream}
use Rattle.capture_run.specs.Running.{Counts}
use Rattle.capture_items.specs.Streams.{Stream}
use Rattle.capture_items.specs.Slots.{IsBroken}
use Rattle.call_ending.specs.declared.ending.Ending.{Ending}
use Rattle.call_ending.specs.declared.outcome.Outcome.TheVariants.{WriteFault}
use Rattle.nfp_run.specs.Answers.{HasNoOpeningFault, Holds, HoldsPrefix, IsFinal, IsUntouched, HasTexts, Leaves, LeavesPrefixes, WhereRead, WhereTexts, WriteFaultCause}
use Rattle.nfp_run.specs.Closing.{EndsDue, Left, closed, ending_of}
use Rattle.call_ending.specs.Endings.{outcome_seen, text_of}
use Rattle.nfp_run.specs.Due.{Due, due_by_format, due_of_capture, due_of_command, due_of_led, due_of_ng, due_of_pcap, due_of_run, note_of, outcome_of}
use Rattle.call_ending.specs.Told.{is_ng}
use Rattle.nfp_run.specs.Preparing.{Unprepared, chains_prepared, prepared}
use Rattle.call_ending.specs.Reading.{IsOfFormat, LeavesAll, Opens}
use Rattle.nfp_run.specs.Reading.{Serves, chains_run, led_stream, opened_led}
use Rattle.nfp_run.specs.declared.prepared.Prepared.{Prepared}
use Rattle.call_ending.specs.Notes.{done_text}
use Rattle.nfp_run.specs.Written.{both, Led, led_ng, led_pcap, Written}
use Rattle.call_ending.specs.declared.read.Opened.{Opened}
use Rattle.call_ending.specs.declared.read.Opened.TheVariants.{Pcap, Ng}
use Rattle.nfp_run.proofs.Formats.{led_streams}
use Rattle.nfp_run.proofs.HeldBytes.{whole_prefix}
use Rattle.nfp_run.proofs.TextsTold.{if_texts, if_told}

-- this is what is due for a capture with these bytes
pub record IsLed (chains : Chains) (left : Option Led) (bytes : List ℕ) : Type 0 where
  pub led : Led
  pub is : left ≡ Some led
  pub due : due_of_capture chains bytes ≡ due_of_led led
  pub good : HasNoOpeningFault (is_ng bytes) bytes

is_ok : {T : Type 0} (E : Type 0) (x : T) → IsOk {T = T} {E = E} (Ok x)
is_ok E x = search rules

-- a classic capture whose head was read
pcap_led : (chains : Chains) (head : CaptureHead) (left : Option Body) (bytes : List ℕ) → is_ng bytes ≡ false → IsSomeAnd left (λ body. capture_of bytes ≡ Ok (head, body)) →
    IsLed chains (option_map (led_pcap chains head) left) bytes
pcap_led chains head None bytes format whole = absurd whole
pcap_led chains head (Some body) bytes format whole = record {
  led = led_pcap chains head body;
  is = refl;
  due = ap (λ b. due_by_format b chains bytes) format ∙ ap (due_of_pcap chains) whole;
  good = subst (λ b. HasNoOpeningFault b bytes) (sym format) (subst IsOk (sym whole) (let opened : CaptureHead × Body = (head, body) in is_ok CaptureFault opened));
}

ng_due : (chains : Chains) (bytes : List ℕ) (first : Result (Option (NgItem × Place × List ℕ)) NgFault) → IsOk first → due_of_ng chains bytes first ≡ due_of_led (led_ng chains (blocks_of start bytes))
ng_due chains bytes (Ok x) good = refl
ng_due chains bytes (Err fault) good = absurd cc

-- a pcapng capture whose first block was read
ng_led : (chains : Chains) (left : Option (Stream PacketBeside NgItem)) (bytes : List ℕ) → is_ng bytes ≡ true → left ≡ Some (ng_stream (blocks_of start bytes)) → IsOk (next_of start bytes) →
    IsLed chains (option_map (led_stream chains) left) bytes
ng_led chains left bytes format whole good = record {
  led = led_ng chains (blocks_of start bytes);
  is = ap (option_map (led_stream chains)) whole ∙ ap Some (led_streams chains (blocks_of start bytes));
  due = ap (λ b. due_by_format b chains bytes) format ∙ ng_due chains bytes (next_of start bytes) good;
  good = subst (λ b. HasNoOpeningFault b bytes) (sym format) good;
}

opened_is : (chains : Chains) (opened : Opened) (new : SlotView) (bytes : List ℕ) → IsOfFormat (is_ng bytes) opened → LeavesAll opened new bytes → IsLed chains (opened_led chains opened new) bytes
opened_is chains (Pcap head reader) new bytes format whole = pcap_led chains head (body_left reader new) bytes format whole
opened_is chains (Ng source) new bytes format whole = ng_led chains (ng_left source new) bytes format whole.0 whole.1

pub opens_so : (chains : Chains) (name : List ℕ) (opened : Opened) (old new : SlotView) → Opens name opened old new → IfSome old.bytes (IsLed chains (opened_led chains opened new))
opens_so chains name opened old new opens = go old.bytes opens.whole
  where
    go : (o : Option (List ℕ)) → IfSome o (λ bytes. IsOfFormat (is_ng bytes) opened × LeavesAll opened new bytes) → IfSome o (IsLed chains (opened_led chains opened new))
    go None h = tt
    go (Some bytes) h = opened_is chains opened new bytes h.0 h.1

-- A capture was to run through these chains: the policy and the graphs of this name run them, and the capture was
-- opened, if the desk shows all.
pub record Stands (named : Option (List ℕ)) (chains : Chains) (left : Option Led) (old mid : Slot → SlotView) : Type 0 where
  pub serves : Serves named old chains
  pub told : IfSome (old slots.Capture).bytes (IsLed chains left)
  pub same_out : mid slots.Out ≡ old slots.Out
  pub same_report : mid slots.Report ≡ old slots.Report

-- what the run over a known capture left
abbrev pub LeftOf : Option Led → (Slot → SlotView) → (Slot → SlotView) → Result Ended RunFault → Type 0
LeftOf left mid new r = IfSome left (λ led. Left led mid new r)

same_chains : (a b : Chains) → Some a ≡ Some b → a ≡ b
same_chains a b e = cc

-- what is due for a policy and graphs that run these chains
pub run_due : (r : Result Prepared Unprepared) (y : List ℕ) (chains : Chains) → chains_run r ≡ Some chains → due_of_run r y ≡ due_of_capture chains y
run_due (Ok p) y chains runs = ap (λ o. due_of_capture o y) (same_chains (chains_prepared p) chains runs)
run_due (Err fault) y chains runs = absurd cc

told_due : (names : Names) (options : RunOptions) (old : Slot → SlotView) (left : Option Led) (chains : Chains) (P : Due → Type 0) →
    WhereTexts names.graph old (λ p g. chains_run (prepared names.graph p g) ≡ Some chains) → IfSome (old slots.Capture).bytes (IsLed chains left) → IfSome left (λ led. P (due_of_led led)) →
    WhereRead (Ok (Run names options)) old (λ p g c. P (due_of_command (Ok (Run names options)) p g c))
told_due names options old left chains P runs told all = if_texts names.graph old _ _
    (λ p g run. if_told (old slots.Capture).bytes (IsLed chains left) (λ y. P (due_of_run (prepared names.graph p g) y))
    (λ y is. subst P (sym (run_due (prepared names.graph p g) y chains run ∙ is.due)) (subst (λ o. IfSome o (λ led. P (due_of_led led))) is.is all)) told)
    runs

if_some : (o : Option Led) (P Q : Led → Type 0) → ((b : Led) → P b → Q b) → IfSome o P → IfSome o Q
if_some None P Q f h = tt
if_some (Some b) P Q f h = f b h

prefixes_from : (due : Written) (old mid new : Slot → SlotView) → mid slots.Out ≡ old slots.Out → mid slots.Report ≡ old slots.Report → LeavesPrefixes (both due) mid new →
    LeavesPrefixes (both due) old new
prefixes_from due old mid new out report (a, b) = (
  subst (λ v. IsUntouched v (new slots.Out) ⊎ HoldsPrefix due.out v (new slots.Out)) out a,
  subst (λ v. IsUntouched v (new slots.Report) ⊎ HoldsPrefix due.report v (new slots.Report)) report b,
)

left_prefixes : (led : Led) (old new : Slot → SlotView) (r : Result Ended RunFault) → Left led old new r → LeavesPrefixes (both led.written) old new
left_prefixes led old new (Ok ended) ((a, b), counts) =
    (inr (whole_prefix led.written.out (old slots.Out) (new slots.Out) a), inr (whole_prefix led.written.report (old slots.Report) (new slots.Report) b))
left_prefixes led old new (Err e) left = left

pub run_prefixes : (names : Names) (options : RunOptions) (chains : Chains) (left : Option Led) (r : Result Ended RunFault) (old mid new : Slot → SlotView) →
    Stands names.graph chains left old mid → LeftOf left mid new r → WhereRead (Ok (Run names options)) old (λ p g c. LeavesPrefixes (due_of_command (Ok (Run names options)) p g c).written old new)
run_prefixes names options chains left r old mid new s all =
    told_due names options old left chains (λ due. LeavesPrefixes due.written old new) s.serves.runs s.told
    (if_some left _ _ (λ led x. prefixes_from led.written old mid new s.same_out s.same_report (left_prefixes led mid new r x)) all)

is_good : (r : Result Prepared Unprepared) (chains : Chains) → chains_run r ≡ Some chains → IsOk r
is_good (Ok p) chains runs = search rules
is_good (Err fault) chains runs = absurd cc

pub has_texts : (named : Option (List ℕ)) (old : Slot → SlotView) (chains : Chains) → Serves named old chains → HasTexts named old
has_texts named old chains serves = (serves.policy, if_texts named old _ _ (λ p g runs. is_good (prepared named p g) chains runs) serves.runs)

has_head : (c : Option (List ℕ)) (chains : Chains) (left : Option Led) → IfSome c (IsLed chains left) → IfSome c (λ bytes. HasNoOpeningFault (is_ng bytes) bytes)
has_head None chains left told = tt
has_head (Some y) chains left told = told.good

leaves_from : (due : Written) (old mid new : Slot → SlotView) → mid slots.Out ≡ old slots.Out → mid slots.Report ≡ old slots.Report → Leaves (both due) mid new → Leaves (both due) old new
leaves_from due old mid new out report (a, b) = (subst (λ v. Holds due.out v (new slots.Out)) out a, subst (λ v. Holds due.report v (new slots.Report)) report b)

-- a capture that went through whole, or up to its fault, has the due answer
answered : (totals : Totals) (fault : Option FormatFault) → outcome_seen (closed totals fault) ≡ outcome_of fault
answered totals None = refl
answered totals (Some (formats.Pcap fault)) = refl
answered totals (Some (formats.Ng fault)) = refl

noted : (totals : Totals) (fault : Option FormatFault) (fates : List Fate) → totals.records ≡ length fates → totals.dropped ≡ count_by is_gone fates →
    text_of (closed totals fault) ≡ note_of fault fates
noted totals None fates read dropped = ap (λ n. done_text n totals.dropped) read ∙ ap (λ d. done_text (length fates) d) dropped
noted totals (Some (formats.Pcap fault)) fates read dropped = refl
noted totals (Some (formats.Ng fault)) fates read dropped = refl

closed_due : (led : Led) (ended : Ended) (old new : Slot → SlotView) → Counts led.fault led.fates ended → Leaves (both led.written) old new →
    EndsDue (due_of_led led) old new (closed ended.totals ended.fault)
closed_due led ended old new counts left = record {
  answer = answered ended.totals ended.fault ∙ ap outcome_of counts.fault;
  left = left;
  note = noted ended.totals ended.fault led.fates counts.read counts.dropped ∙ ap (λ f. note_of f led.fates) counts.fault;
}

-- the answer to a run that wasn't broken off
pub run_ends : (names : Names) (options : RunOptions) (chains : Chains) (left : Option Led) (r : Result Ended RunFault) (ending : Ending) (old mid new : Slot → SlotView) →
    Stands names.graph chains left old mid → LeftOf left mid new r → ending ≡ ending_of r → IsFinal (outcome_seen ending) →
    WhereRead (Ok (Run names options)) old (λ p g c. EndsDue (due_of_command (Ok (Run names options)) p g c) old new ending)
run_ends names options chains left (Ok ended) ending old mid new s all is final =
    subst (λ e. WhereRead (Ok (Run names options)) old (λ p g c. EndsDue (due_of_command (Ok (Run names options)) p g c) old new e)) (sym is)
    (told_due names options old left chains (λ due. EndsDue due old new (closed ended.totals ended.fault)) s.serves.runs s.told
    (if_some left _ _ (λ led x. closed_due led ended old new x.1 (leaves_from led.written old mid new s.same_out s.same_report x.0)) all))
run_ends names options chains left (Err faults.ReadFault) ending old mid new s all is final = absurd (subst (λ e. IsFinal (outcome_seen e)) is final)
run_ends names options chains left (Err (faults.WriteFault slot)) ending old mid new s all is final = absurd (subst (λ e. IsFinal (outcome_seen e)) is final)
run_ends names options chains left (Err faults.OutOfMemory) ending old mid new s all is final = absurd (subst (λ e. IsFinal (outcome_seen e)) is final)

-- a slot that was written gave the fault that broke the run off
broken_write : (names : Names) (options : RunOptions) (chains : Chains) (left : Option Led) (old mid new : Slot → SlotView) (slot : Slot) →
    Stands names.graph chains left old mid → IsBroken mid new (faults.WriteFault slot) → WriteFaultCause (Ok (Run names options)) old new slot
broken_write names options chains left old mid new slots.Out s cause =
    ((has_texts names.graph old chains s.serves, has_head (old slots.Capture).bytes chains left s.told), subst (λ v. IsRisen v.faults (new slots.Out).faults) s.same_out cause)
broken_write names options chains left old mid new slots.Report s cause =
    ((has_texts names.graph old chains s.serves, has_head (old slots.Capture).bytes chains left s.told), subst (λ v. IsRisen v.faults (new slots.Report).faults) s.same_report cause)
broken_write names options chains left old mid new slots.Note s cause = absurd cause
broken_write names options chains left old mid new slots.Policy s cause = absurd cause
broken_write names options chains left old mid new slots.Capture s cause = absurd cause
broken_write names options chains left old mid new slots.Graph s cause = absurd cause

no_write_fault : (totals : Totals) (f : Option FormatFault) (slot : Slot) → outcome_seen (closed totals f) ≡ WriteFault slot → ⊥
no_write_fault totals None slot e = cc
no_write_fault totals (Some (formats.Pcap fault)) slot e = cc
no_write_fault totals (Some (formats.Ng fault)) slot e = cc

seen_write : (names : Names) (options : RunOptions) (chains : Chains) (left : Option Led) (old mid new : Slot → SlotView) (r : Result Ended RunFault) (slot : Slot) →
    Stands names.graph chains left old mid → IfErr r (IsBroken mid new) → outcome_seen (ending_of r) ≡ WriteFault slot → WriteFaultCause (Ok (Run names options)) old new slot
seen_write names options chains left old mid new (Ok ended) slot s cause e = absurd (no_write_fault ended.totals ended.fault slot e)
seen_write names options chains left old mid new (Err faults.ReadFault) slot s cause e = absurd cc
seen_write names options chains left old mid new (Err faults.OutOfMemory) slot s cause e = absurd cc
seen_write names options chains left old mid new (Err (faults.WriteFault x)) slot s cause e =
    let same : x ≡ slot = cc in
    broken_write names options chains left old mid new slot s (subst (λ y. IsBroken mid new (faults.WriteFault y)) same cause)

pub run_write_faults : (names : Names) (options : RunOptions) (chains : Chains) (left : Option Led) (old mid new : Slot → SlotView) (r : Result Ended RunFault) (ending : Ending) →
    Stands names.graph chains left old mid → IfErr r (IsBroken mid new) → ending ≡ ending_of r → (slot : Slot) → outcome_seen ending ≡ WriteFault slot →
    WriteFaultCause (Ok (Run names options)) old new slot
run_write_faults names options chains left old mid new r ending s cause is slot e = seen_write names options chains left old mid new r slot s cause (ap outcome_seen (sym is) ∙ e)
