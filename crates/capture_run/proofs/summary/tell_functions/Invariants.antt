use Rattle.piece_walk.specs.Pieces.{functions_in}
use Rattle.capture_report.specs.ChainServiceProofs.{pieces_in}
use Rattle.capture_report.specs.Report.{chain_lines}
use Rattle.capture_run.proofs.Gathering.{IsTelling}
use Rattle.capture_run.proofs.summary.tell_functions.Given as goal

abbrev pub invariant-chains : goal.invariant-chains
invariant-chains g l = IsTelling (λ c. chain_lines c.declared (functions_in (pieces_in c))) l.chains l.chain-index l.fn.held.items l.held.items (g.D.Desk.slots l.fn.desk) (g.D.Desk.slots l.desk)
