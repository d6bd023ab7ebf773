use Rattle.packet_messages.specs.Messages.{plain}
use Rattle.packet_messages.proofs.Rests.{room_is, next_fits, put_on}
use Rattle.packet_messages.proofs.outlet.Outlet.give.Goals as goal

pub put-requires-clause-room : goal.put-requires-clause-room
put-requires-clause-room g c =
    let p = c.self.inside.putter in
    room_is p.due p.put c.args.self.now p.capacity c.self.view_is c.requires.due c.self.invariant

pub put-requires-clause-fits : goal.put-requires-clause-fits
put-requires-clause-fits g c =
    let p = c.self.inside.putter in
    next_fits p.due p.put c.args.self.now (plain c.args.message) c.self.view_is c.requires.due c.requires.fits

pub returns : goal.returns
returns g c = put_on c.self.inside.putter _ c.args.self.now (plain c.args.message) c.put.ensures.put c.self.view_is
