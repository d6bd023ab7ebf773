use Rattle.piece_walk.specs.Pieces.{functions_in}
use Rattle.capture_report.specs.SegmentRun.{pieces_of}
use Rattle.capture_report.specs.Report.{function_lines}
use Rattle.capture_run.proofs.Gathering.{IsTelling}
use Rattle.capture_run.proofs.summary.tell_chain.Given as goal

abbrev pub invariant-functions : goal.invariant-functions
invariant-functions g l =
    IsTelling (function_lines l.chain.name (functions_in (pieces_of l.pieces))) l.declared-items l.declared-index l.fn.held.items l.held.items (g.D.Desk.slots l.fn.desk) (g.D.Desk.slots l.desk)
