-- A capture that was read to its end, so that nothing is left of it.
use Rattle.std.proofs.Common.{◌≡◌, ℕ, List, sym, subst}
use Rattle.std.specs.Prelude.{Option, Some, None, IfNone, IfOk, Result, Ok, Err}
use Rattle.nfp_outside.specs.declared.slot.Slot.{Slot}
use Rattle.nfp_outside.specs.Outside.{SlotView}
use Rattle.capture_items.specs.declared.fault.FormatFault.{FormatFault}
use Rattle.capture_run.specs.Passing.{StopEnds}
use Rattle.capture_items.specs.declared.fault.RunFault.{RunFault}
use Rattle.capture_items.specs.declared.fault.SourceFault.{SourceFault}
use Rattle.capture_items.specs.declared.fault.SourceFault.TheVariants as refusals
use Rattle.capture_items.specs.declared.given.Given.{Given}
use Rattle.capture_run.specs.declared.passage.Passage.{Passage}

if_none : {T : Type 0} (o : Option T) (P : Type 0) → P → IfNone o P
if_none None P h = h
if_none (Some x) P h = tt

-- what ran after the end of a capture leaves it unchanged
pub drained_at_end : {W : Type 0} (P : SlotView → Type 0) (r : Result (Passage W × Option FormatFault) RunFault) (mid new : SlotView) → new ≡ mid → P mid → IfOk r (λ run. IfNone run.1 (P new))
drained_at_end P (Ok run) mid new same drained = if_none run.1 (P new) (subst P (sym same) drained)
drained_at_end P (Err fault) mid new same drained = tt

-- an end with a fault of the capture needn't have read it to its end
pub drained_at_stop : {W X B : Type 0} (spelled : W → Given X B → List ℕ) (held : List (Given X B)) (p : Passage W) (refusal : SourceFault) (old new : Slot →
    SlotView) (r : Result (Passage W × Option FormatFault) RunFault) (P : Type 0) →
    IfOk r (StopEnds spelled held p refusal old new) → IfOk r (λ run. IfNone run.1 P)
drained_at_stop spelled held p refusal old new (Err fault) P ends = tt
drained_at_stop spelled held p (refusals.Format fault) old new (Ok run) P ends = subst (λ o. IfNone o P) (sym ends.told) tt
drained_at_stop spelled held p refusals.ReadFault old new (Ok run) P ends = absurd ends
drained_at_stop spelled held p refusals.OutOfMemory old new (Ok run) P ends = absurd ends

-- and what is reported after it leaves it unchanged
pub still_drained : (P : SlotView → Type 0) (fault : Option FormatFault) (mid new : SlotView) → new ≡ mid → IfNone fault (P mid) → IfNone fault (P new)
still_drained P None mid new same drained = subst P (sym same) drained
still_drained P (Some fault) mid new same drained = tt
