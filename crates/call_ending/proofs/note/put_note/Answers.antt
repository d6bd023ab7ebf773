use Rattle.std.proofs.Common.{inl, inr, refl}
use Rattle.nfp_outside.specs.declared.slot.Slot.TheVariants.{Note}
use Rattle.nfp_outside.specs.Adding.{prefix_none}
use Rattle.call_ending.specs.Endings.{text_of}
use Rattle.call_ending.proofs.note.put_note.Goals as goal

pub returns-in-Err-clause-notes : goal.returns-in-Err-clause-notes
returns-in-Err-clause-notes g c = inr (inl (refl, prefix_none (text_of c.args.ending) (g.D.Desk.slots c.args.desk.now Note)))
