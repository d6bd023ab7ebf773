-- For proofs: what the desk that weighs shows.
use Rattle.std.specs.Prelude.{ℕ, List, [], Option, Some, None}
use Rattle.std.specs.Option.{option_map}
use Rattle.std.specs.String.{string_bytes}
use Rattle.nfp_outside.specs.declared.slot.Slot.{Slot}
use Rattle.nfp_outside.specs.declared.weight.Weight.{Weight}
use Rattle.nfp_outside.specs.declared.scales.Scales.{Scales}
use Rattle.nfp_outside.specs.Outside.{SlotView}
use Rattle.nfp_outside.specs.Slots.{at_slot}

-- the name of a slot; Capture, Out, Report and Graph start with the empty name
abbrev pub named_in : Scales → Slot → Option (List ℕ)
named_in d s = at_slot (option_map string_bytes d.policy) (Some []) (Some []) (Some []) None (Some []) s

-- the weight of the bytes that were put into a write slot
abbrev pub weighed_in : Scales → Slot → Option Weight
weighed_in d s = at_slot None None (Some d.out) (Some d.report) (Some d.note) None s

-- the desk that weighs shows its names and weights, no bytes, and no fault in any slot
abbrev pub scales_slots : Scales → Slot → SlotView
scales_slots d s = record { name = named_in d s; bytes = None; weight = weighed_in d s; faults = 0 }
