use Rattle.nfp_outside.specs.declared.slot.Slot.TheVariants.{Capture}
use Rattle.nfp_run.proofs.OtherSlots.{capture_is_not_out}
use Rattle.nfp_run.proofs.ReadToEnd.{exported_drained}
use Rattle.nfp_run.proofs.flows.count_and_export.Goals as goal

pub returns-clause-drained : goal.returns-clause-drained
returns-clause-drained g c = exported_drained c.in_ok-counted.counted.records c.in_ok-counted.counted.lines c.in_ok-counted.counted.fault _ _ c.export_counted.result
    (c.export_counted.ensures.others Capture capture_is_not_out) c.in_ok-counted.ensures.drained c.export_counted.ensures.ending
