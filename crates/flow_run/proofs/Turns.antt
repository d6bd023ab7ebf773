-- A capture read record by record: what is counted so far and what is left give what all of it gives.
use Rattle.std.proofs.Common.{◌≡◌, ◌≢◌, ◌≤◌, ◌∙◌, ℕ, [], false, refl, sym, ap, subst}
use Rattle.std.specs.Prelude.{Option, Some, None, IfNone, IfOk, IfSome, Result, Ok, Err, unwrap_or}
use Rattle.std.specs.Option.{option_map}
use Rattle.nfp_outside.specs.declared.slot.Slot.{Slot}
use Rattle.nfp_outside.specs.declared.slot.Slot.TheVariants as slots
use Rattle.nfp_outside.specs.Outside.{SlotView}
use Rattle.nfp_outside.specs.declared.slot.DeskFault.{DeskFault}
use Rattle.capture_bytes.specs.declared.packet.PcapRecord.{PcapRecord}
use Rattle.capture_bytes.specs.declared.packet.Unit.{Unit as TimeUnit}
use Rattle.pcap_io.specs.Capture.{Body, with_record as before_others}
use Rattle.pcap_io.specs.Reader.{IsAtEnd, IsHeadFault, IsRecordFault, ReaderState, body_left}
use Rattle.pcap_io.specs.declared.capture.CaptureFault.{CaptureFault}
use Rattle.pcap_io.specs.declared.capture.CaptureFault.TheVariants.{BadMagic, BadVersion, BadLink, CutHead, CutRecord, FrameTooLong, TooManyRecords}
use Rattle.pcap_io.specs.declared.fault.PcapFault.{PcapFault}
use Rattle.pcap_io.specs.declared.fault.PcapFault.TheVariants as refusals
use Rattle.flow_run.specs.Counting.{CountingView, IsCountOf, IsCountedWith, StopsAt, nothing_counted, with_body, with_record}
use Rattle.flow_run.specs.declared.count.Counted.{Counted}
use Rattle.flow_run.proofs.Folding.{counted_whole}

-- what is counted after this is read too, and the fault that ends it
abbrev pub ends : CountingView → Body → CountingView × Option CaptureFault
ends c body = (with_body c body, body.fault)

-- how far a capture is read and counted
pub record IsAt (unit : TimeUnit) (c : CountingView) (first reader : ReaderState) (old new : Slot → SlotView) : Type 0 where
  pub unspent : reader.spent ≡ false
  pub as_many : reader.given ≡ c.records
  pub whole : option_map (ends (nothing_counted unit)) (body_left first (old slots.Capture)) ≡ option_map (ends c) (body_left reader (new slots.Capture))
  pub later : (old slots.Capture).faults ≤ (new slots.Capture).faults
  pub same_name : (new slots.Capture).name ≡ (old slots.Capture).name
  pub others : (s : Slot) → s ≢ slots.Capture → new s ≡ old s

-- a record that is counted instead of left
pub one_counted : (c : CountingView) (r : PcapRecord) (before after : Option Body) → before ≡ option_map (before_others r) after → option_map (ends c) before ≡ option_map (ends (with_record c r)) after
one_counted c r before after same = ap (option_map (ends c)) same ∙ by after
  where
    by : (o : Option Body) → option_map (ends c) (option_map (before_others r) o) ≡ option_map (ends (with_record c r)) o
    by None = refl
    by (Some body) = refl

-- nothing was left, and so nothing is
pub drained : (before after : ReaderState) (old new : SlotView) → IsAtEnd before after old new → IfSome new.bytes (λ bytes. bytes ≡ [])
drained before after old new end = subst (λ o. IfSome o (λ bytes. bytes ≡ [])) (sym end.left) end.empty

pub if_none : {T : Type 0} (o : Option T) (P : Type 0) → P → IfNone o P
if_none None P h = h
if_none (Some x) P h = tt

-- nothing is left but this fault, or none
pub ended : (unit : TimeUnit) (c : CountingView) (fault : Option CaptureFault) (counted : Counted) (all left : Option Body) → option_map (ends (nothing_counted unit)) all ≡ option_map (ends c) left →
    IfSome left (λ body. body ≡ record { records = []; fault = fault }) → IsCountedWith c fault counted → IfSome all (λ body. IsCountOf unit body counted)
ended unit c fault counted None left same end is = tt
ended unit c fault counted (Some b) None same end is = absurd cc
ended unit c fault counted (Some b) (Some e) same end is =
    let pair : ends (nothing_counted unit) b ≡ (c, fault) = ap (λ o. unwrap_or o (c, fault)) same ∙ ap (ends c) end in
    counted_whole unit b counted (subst (λ (p : CountingView × Option CaptureFault). IsCountedWith p.0 p.1 counted) (sym pair) is)

-- what holds for all that was counted, if memory sufficed
pub when_counted : (r : Result Counted DeskFault) (P Q : Counted → Type 0) → ((x : Counted) → P x → Q x) → IfOk r P → IfOk r Q
when_counted (Ok x) P Q f p = f x p
when_counted (Err e) P Q f p = tt

-- what holds for all that was counted up to a fault of the capture
pub when_stopped : (c : CountingView) (refusal : PcapFault) (r : Result Counted DeskFault) (Q : Counted → Type 0) → StopsAt c refusal r → ((fault : CaptureFault) (x : Counted) → refusal ≡ refusals.Capture fault → IsCountedWith c (Some fault) x → Q x) → IfOk r Q
when_stopped c (refusals.Capture fault) r Q stops f = when_counted r (IsCountedWith c (Some fault)) Q (λ x is. f fault x refl is) stops.0
when_stopped c (refusals.ReadFault slot) r Q stops f = subst (λ r. IfOk r Q) (sym stops) tt
when_stopped c refusals.OutOfMemory r Q stops f = subst (λ r. IfOk r Q) (sym stops) tt

-- the fault of a record is no fault of the head
pub behind_head : (given : ℕ) (fault : CaptureFault) → IsRecordFault given fault → ¬ IsHeadFault fault
behind_head given BadMagic is head = is
behind_head given BadVersion is head = is
behind_head given (BadLink link) is head = is
behind_head given CutHead is head = is
behind_head given (CutRecord n) is head = head
behind_head given (FrameTooLong n l) is head = head
behind_head given TooManyRecords is head = head
