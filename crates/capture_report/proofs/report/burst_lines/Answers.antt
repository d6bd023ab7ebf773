use Rattle.std.proofs.Common.{◌+◌, ◌∙◌, ◌++◌, refl, ap, sym, arith}
use Rattle.burst_walk.specs.ChainServiceProofs.{chains_of}
use Rattle.burst_walk.specs.Leading.{ended}
use Rattle.capture_report.specs.Report.{drop_line, names_among}
use Rattle.capture_report.proofs.Dropping.{lines_up_to, no_lines}
use Rattle.capture_report.proofs.report.burst_lines.Goals as goal

pub fates-init : goal.fates-init
fates-init c = c.new-text.ensures.items ∙ sym (no_lines (names_among (chains_of c.args.chains.now)) c.args.first)

pub fates-preserved : goal.fates-preserved
fates-preserved c =
    let many = c.requires.as_many in
    c.in_ok-push_drop_line.ensures
    ∙ ap (λ l. l ++ drop_line (names_among (chains_of c.args.chains.now)) (c.args.first + c.fates.index) c.index-items-index.result.class (ended c.index-items-index.result.packet c.index-fates-index.result)) c.fates.invariant
    ∙ sym (lines_up_to (names_among (chains_of c.args.chains.now)) c.args.first c.args.items.now c.args.fates.now c.fates.index (c.args.first + c.fates.index) c.index-items-index.result c.index-fates-index.result
    (omega arith) (omega arith) c.index-items-index.is c.index-fates-index.is refl)
