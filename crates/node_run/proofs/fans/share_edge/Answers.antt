use Rattle.node_run.proofs.Shares.{share_room}
use Rattle.node_run.proofs.fans.share_edge.Goals as goal

pub edge-requires-clause-room : goal.edge-requires-clause-room
edge-requires-clause-room g c = share_room c.args.mergers c.args.merger c.args.count _ g.D.LinkDue.due g.E.LinkDue.due c.requires.due c.requires.many c.share_count.ensures.share
