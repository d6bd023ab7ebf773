use Rattle.nfp_outside.specs.declared.slot.Slot.TheVariants.{Policy}
use Rattle.why_call.proofs.ReadyChains.{ready_of}
use Rattle.why_call.proofs.ready.read_chains.Goals as goal

pub returns-in-Ok-make_plain-clause-ready : goal.returns-in-Ok-make_plain-clause-ready
returns-in-Ok-make_plain-clause-ready g c = ready_of (g.D.Desk.slots c.args.desk.now Policy) c.in-Ok.judged c.in-Ok-make_plain.service c.in-Ok.ensures.read
    c.in-Ok-make_plain.ensures.declared c.in-Ok-make_plain.ensures.orders c.in-Ok-make_plain.ensures.runs
