use Rattle.flow_export.proofs.Sending.{AreSent}
use Rattle.flow_export.proofs.packets.send.Given as goal

-- the packets so far are in Out
abbrev pub invariant-packets : goal.invariant-packets
invariant-packets g l = AreSent l.span l.lines (g.D.Desk.slots l.fn.desk) (g.D.Desk.slots l.desk) l.number l.rest
