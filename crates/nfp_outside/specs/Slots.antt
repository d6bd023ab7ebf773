-- For proofs: a value for each of the six slots.
use Rattle.nfp_outside.specs.declared.slot.Slot.{Slot}
use Rattle.nfp_outside.specs.declared.slot.Slot.TheVariants.{Policy, Capture, Out, Report, Note, Graph}

-- the one of six values that belongs to a slot
unfoldable pub at_slot : {A : Type 0} → A → A → A → A → A → A → Slot → A
at_slot policy capture out report note graph Policy = policy
at_slot policy capture out report note graph Capture = capture
at_slot policy capture out report note graph Out = out
at_slot policy capture out report note graph Report = report
at_slot policy capture out report note graph Note = note
at_slot policy capture out report note graph Graph = graph
