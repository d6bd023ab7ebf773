-- What Out and Report hold if a capture ran into them, or its run was broken off.
use Rattle.std.proofs.Common.{◌≡◌, ◌∙◌, inl, inr, ℕ, List, refl, ap, sym, subst}
use Rattle.std.specs.Prelude.{Option, Some, None, IfOk, IfErr, IfSome, IsErrAnd, Result, Ok, Err}
use Rattle.nfp_outside.specs.declared.slot.Slot.{Slot}
use Rattle.nfp_outside.specs.declared.slot.Slot.TheVariants as slots
use Rattle.nfp_outside.specs.Outside.{SlotView, Attaches, KeepsSlot}
use Rattle.capture_run.specs.CaptureReportProofs.{Ended}
use Rattle.capture_items.specs.declared.fault.RunFault.{RunFault}
use Rattle.capture_items.specs.Slots.{Puts, PutsPrefixes}
use Rattle.nfp_run.specs.Answers.{Leaves, LeavesPrefixes, ReportBehindOut}
use Rattle.nfp_run.specs.Closing.{Left, LedPartly, LedWhole}
use Rattle.nfp_run.specs.Written.{Led, Written, both}
use Rattle.nfp_run.proofs.HeldBytes.{is_named, holds_all, holds_none, holds_prefix, untouched, untouched_same}

-- Out and Report were attached one after the other.
pub record Attached (out_name report_name : List ℕ) (old first second : Slot → SlotView) : Type 0 where
  pub at_out : Attaches slots.Out out_name (old slots.Out) (first slots.Out)
  pub still_report : first slots.Report ≡ old slots.Report
  pub at_report : Attaches slots.Report report_name (first slots.Report) (second slots.Report)
  pub still_out : second slots.Out ≡ first slots.Out

out_attaches : (out_name report_name : List ℕ) (old first second : Slot → SlotView) → Attached out_name report_name old first second → Attaches slots.Out out_name (old slots.Out) (second slots.Out)
out_attaches out_name report_name old first second a = subst (Attaches slots.Out out_name (old slots.Out)) (sym a.still_out) a.at_out

report_attaches : (out_name report_name : List ℕ) (old first second : Slot → SlotView) → Attached out_name report_name old first second →
    Attaches slots.Report report_name (old slots.Report) (second slots.Report)
report_attaches out_name report_name old first second a = subst (λ v. Attaches slots.Report report_name v (second slots.Report)) a.still_report a.at_report

leaves_all : (out_name report_name : List ℕ) (due : Written) (old first second new : Slot → SlotView) → Attached out_name report_name old first second → Puts due.out due.report second new →
    Leaves (both due) old new
leaves_all out_name report_name due old first second new a puts = (
  holds_all slots.Out out_name due.out (old slots.Out) (second slots.Out) (new slots.Out) refl (out_attaches out_name report_name old first second a) puts.in_out,
  holds_all slots.Report report_name due.report (old slots.Report) (second slots.Report) (new slots.Report) refl (report_attaches out_name report_name old first second a) puts.in_report,
)

leaves_prefixes : (out_name report_name : List ℕ) (due : Written) (old first second new : Slot → SlotView) → Attached out_name report_name old first second →
    PutsPrefixes due.out due.report second new → LeavesPrefixes (both due) old new
leaves_prefixes out_name report_name due old first second new a puts = (
  inr (holds_prefix slots.Out out_name due.out (old slots.Out) (second slots.Out) (new slots.Out) refl (out_attaches out_name report_name old first second a) puts.in_out),
  inr (holds_prefix slots.Report report_name due.report (old slots.Report) (second slots.Report) (new slots.Report) refl (report_attaches out_name report_name old first second a) puts.in_report),
)

ran_so : (out_name report_name : List ℕ) (left : Option Led) (old first second new : Slot → SlotView) (r : Result Ended RunFault) → Attached out_name report_name old first second →
    IfOk r (LedWhole left second new) → IfErr r (LedPartly left second new) →
    IfSome left (λ led. Left led old new r)
ran_so out_name report_name None old first second new r a whole broken = tt
ran_so out_name report_name (Some led) old first second new (Ok ended) a whole broken = (leaves_all out_name report_name led.written old first second new a whole.puts, whole.counts)
ran_so out_name report_name (Some led) old first second new (Err e) a whole broken = leaves_prefixes out_name report_name led.written old first second new a broken.prefixes

-- the capture ran, and the rest of it was unchanged until then
pub left_by_run : (out_name report_name : List ℕ) (start left : Option Led) (old first second new : Slot → SlotView) (r : Result Ended RunFault) → Attached out_name report_name old first second →
    left ≡ start → IfOk r (LedWhole left second new) → IfErr r (LedPartly left second new) →
    IfSome start (λ led. Left led old new r)
left_by_run out_name report_name start left old first second new r a same whole broken =
    subst (λ o. IfSome o (λ led. Left led old new r)) same (ran_so out_name report_name left old first second new r a whole broken)

for_each : (o : Option Led) (P : Led → Type 0) → ((led : Led) → P led) → IfSome o P
for_each None P f = tt
for_each (Some led) P f = f led

-- Out couldn't be attached
pub out_unattached : (left : Option Led) (old new : Slot → SlotView) (r : Result Ended RunFault) (e : RunFault) → IsErrAnd r (λ f. f ≡ e) → (old slots.Out).name ≡ None →
    (old slots.Report).name ≡ None → KeepsSlot (old slots.Out) (new slots.Out) →
    new slots.Report ≡ old slots.Report → IfSome left (λ led. Left led old new r)
out_unattached left old new (Ok ended) e is free free_report keeps same = absurd is
out_unattached left old new (Err f) e is free free_report keeps same = for_each left (λ led. Left led old new (Err f))
    (λ led. (inl (untouched (old slots.Out) (new slots.Out) free keeps), inl (untouched_same (old slots.Report) (new slots.Report) free_report same)))

-- Report couldn't be attached, after Out
pub report_unattached : (out_name : List ℕ) (left : Option Led) (old first new : Slot → SlotView) (r : Result Ended RunFault) (e : RunFault) → IsErrAnd r (λ f. f ≡ e) →
    (old slots.Report).name ≡ None → Attaches slots.Out out_name (old slots.Out) (first slots.Out) →
    first slots.Report ≡ old slots.Report → KeepsSlot (first slots.Report) (new slots.Report) → new slots.Out ≡ first slots.Out → IfSome left (λ led. Left led old new r)
report_unattached out_name left old first new (Ok ended) e is free attached same keeps still = absurd is
report_unattached out_name left old first new (Err f) e is free attached same keeps still = for_each left (λ led. Left led old new (Err f))
    (λ led. (
      inr (holds_none slots.Out out_name led.written.out (old slots.Out) (new slots.Out) refl (subst (Attaches slots.Out out_name (old slots.Out)) (sym still) attached)),
      inl (untouched (old slots.Report) (new slots.Report) free (subst (λ v. KeepsSlot v (new slots.Report)) same keeps)),
    ))

-- Report is attached only behind Out, which was attached first and keeps its name
pub behind_run : (out_name : List ℕ) (left : Option Led) (old first mid new : Slot → SlotView) (r : Result Ended RunFault) → Attaches slots.Out out_name (old slots.Out) (first slots.Out) →
    mid slots.Out ≡ first slots.Out →
    IfOk r (LedWhole left mid new) → IfErr r (LedPartly left mid new) → ReportBehindOut new
behind_run out_name left old first mid new (Ok ended) attached still whole partly = inr (is_named out_name (new slots.Out).name (whole.goes.out_name ∙ ap (λ v. v.name) still ∙ attached.named))
behind_run out_name left old first mid new (Err fault) attached still whole partly = inr (is_named out_name (new slots.Out).name (partly.goes.out_name ∙ ap (λ v. v.name) still ∙ attached.named))
