use Rattle.std.proofs.Common.{subst, sym}
use Rattle.packet_messages.specs.Messages.{Fits, first}
use Rattle.packet_messages.proofs.Rests.{was_due, taken_on}
use Rattle.packet_messages.proofs.inlet.Inlet.accept.Goals as goal

pub returns-clause-fits : goal.returns-clause-fits
returns-clause-fits g c =
    let t = c.self.inside.taker in
    subst (Fits (first c.args.self.now)) (sym c.message.view_is) (was_due t.due t.taken c.args.self.now c.take.result c.self.view_is c.take.ensures.fits)

pub returns-clause-after : goal.returns-clause-after
returns-clause-after g c = taken_on c.self.inside.taker _ c.args.self.now c.take.result c.take.ensures.taken c.self.view_is
