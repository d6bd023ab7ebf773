use Rattle.std.proofs.Common.{ap, length, arith}
use Rattle.node_run.proofs.Meets.{board_long, shares_many}
use Rattle.node_run.proofs.on_board.meet_on_board.Goals as goal

pub share_count-own-requires : goal.share_count-own-requires
share_count-own-requires g c = c.requires.meet.some

pub board_ends-requires-clause-branches : goal.board_ends-requires-clause-branches
board_ends-requires-clause-branches g c = let b = c.requires.meet.branches in (omega (arith, b.0, b.1), omega (arith, b.1))

pub board_ends-requires-clause-few : goal.board_ends-requires-clause-few
board_ends-requires-clause-few g c = omega (arith, c.share_count-own.ensures.few, c.requires.meet.few)

pub board_ends-requires-clause-rows : goal.board_ends-requires-clause-rows
board_ends-requires-clause-rows g c = shares_many g.F.BranchWork.kit c.args.touches.now c.args.functions.now c.args.mergers c.args.merger g.D.LinkDue.due g.E.BoardDue.due c.requires.due c.requires.meet.owners

pub board_ends-requires-clause-long : goal.board_ends-requires-clause-long
board_ends-requires-clause-long g c =
    board_long g.F.BranchWork.kit c.args.touches.now c.args.functions.now c.args.mergers c.args.merger g.D.LinkDue.due c.args.count c.share_count-own.result g.E.BoardDue.due c.requires.due c.requires.meet.many c.share_count-own.ensures.share

pub of_board-requires : goal.of_board-requires
of_board-requires g c =
    let long = shares_many g.F.BranchWork.kit c.args.touches.now c.args.functions.now c.args.mergers c.args.merger g.D.LinkDue.due g.E.BoardDue.due c.requires.due c.requires.meet.owners in
    omega (arith, ap length c.in_ok-seats.ensures.inlets, long, c.requires.meet.branches.0)
