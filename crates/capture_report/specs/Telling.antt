-- For proofs: what a service reports at the end of a run.
use Rattle.std.specs.Prelude.{ℕ, List, ◌++◌}
use Rattle.std.specs.List.{flat_map}
use Rattle.packet_version.specs.Tallies.{count_of}
use Rattle.piece_walk.specs.Pieces.{functions_in}
use Rattle.burst_walk.specs.ChainServiceProofs.{ServiceChain, pieces_in}
use Rattle.capture_report.specs.Report.{ChainNames, chain_lines, copies_lines}
use Rattle.capture_items.specs.FaultLines.{last_line}
use Rattle.capture_items.specs.Totals.{total_line}
use Rattle.capture_report.specs.declared.ended.Ended.{Ended}

-- the names of a chain and of its functions
abbrev pub names_in : ServiceChain → ChainNames
names_in chain = record { chain = chain.declared.name; functions = chain.names }

-- the totals, and what each chain reports about its copies and its functions
unfoldable pub told_text : List ServiceChain → Ended → List ℕ
told_text chains ended =
    total_line ended.totals.records ended.totals.dropped
    ++ (flat_map (λ c. copies_lines c.declared.name (count_of c.copies)) chains
    ++ (flat_map (λ c. chain_lines c.declared (functions_in (pieces_in c))) chains
    ++ last_line ended.fault))
