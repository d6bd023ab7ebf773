use Rattle.std.proofs.Common.{◌≡◌, ◌++◌, take}
use Rattle.std.specs.List.{flat_map}
use Rattle.packet_version.specs.Tallies.{count_of}
use Rattle.capture_report.specs.Report.{copies_lines}
use Rattle.capture_run.proofs.summary.push_head.Given as goal

abbrev pub invariant-chains : goal.invariant-chains
invariant-chains l = l.held.items ≡ l.initial.held.items ++ flat_map (λ c. copies_lines c.declared.name (count_of c.copies)) (take l.chain-index l.chains)
