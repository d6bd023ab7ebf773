use Rattle.std.proofs.Common.{refl}
use Rattle.node_run.proofs.Shares.{share_room}
use Rattle.node_run.proofs.Wiring.{ran_many}
use Rattle.node_run.proofs.over_links.branch_link.Goals as goal

pub edge-requires-clause-room : goal.edge-requires-clause-room
edge-requires-clause-room g c =
    let many = ran_many g.F.BranchWork.kit c.args.work.now c.args.touch c.args.count g.D.LinkDue.due _ refl c.requires.many in
    share_room c.args.mergers c.args.merger c.args.count _ _ g.E.LinkDue.due c.requires.due many c.share_count.ensures.share
