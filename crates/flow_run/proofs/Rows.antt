-- Worked rows: the span of a capture's times.
use Rattle.std.proofs.Common.{◌≡◌, ℕ, [], ◌∷◌, refl}
use Rattle.capture_bytes.specs.declared.packet.PcapRecord.{PcapRecord}
use Rattle.capture_bytes.specs.declared.packet.Unit.TheVariants.{Micro}
use Rattle.flow_run.specs.FlowsOut.{span_of}

abbrev at : ℕ → PcapRecord
at seconds = record { seconds = seconds; fraction = 1; wire = 0; frame = [] }

-- in order of time it is from the first record to the last
in_order : span_of Micro (at 3 ∷ at 5 ∷ at 7 ∷ []) ≡ record { origin = 3000001000; greatest = 7000001000 }
in_order = refl

-- and else from the least time to the greatest
out_of_order : span_of Micro (at 5 ∷ at 7 ∷ at 3 ∷ at 6 ∷ []) ≡ record { origin = 3000001000; greatest = 7000001000 }
out_of_order = refl
