use Rattle.std.proofs.Common.{◌≡◌, map, take}
use Rattle.burst_walk.specs.ChainServiceProofs.{chains_of}
use Rattle.burst_walk.specs.Leading.{all_ended}
use Rattle.capture_report.specs.Report.{drop_lines, names_among}
use Rattle.capture_report.proofs.report.burst_lines.Given as goal

abbrev pub invariant-fates : goal.invariant-fates
invariant-fates l = l.text.items ≡ drop_lines (names_among (chains_of l.chains)) l.first (map (λ i. i.class) (take l.index l.items)) (all_ended (take l.index l.items) (take l.index l.fates))
