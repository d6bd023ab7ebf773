use Rattle.std.proofs.Common.{◌≡◌, ◌++◌, take}
use Rattle.std.specs.List.{flat_map}
use Rattle.packet_version.specs.Tallies.{count_of}
use Rattle.capture_report.specs.Report.{copies_line}
use Rattle.capture_report.proofs.report.push_copies_lines.Given as goal

abbrev pub invariant-fields : goal.invariant-fields
invariant-fields l = l.text.items ≡ l.fn.text.items ++ flat_map (λ f. copies_line l.chain f (count_of l.copies f)) (take l.field-index l.field-items)
