use Rattle.std.proofs.Common.{◌≡◌, ◌++◌, ℕ, map, take}
use Rattle.std.specs.List.{flat_map}
use Rattle.why_report.specs.Report.{line_text}
use Rattle.why_report.proofs.lines.push_hits.Given as goal

-- the lines so far
abbrev pub invariant-lines : goal.invariant-lines
invariant-lines l = (hits_by : ℕ → ℕ) → l.hits ≡ map hits_by l.lines → l.text.items ≡ l.fn.text.items ++ flat_map (λ line. line_text line (hits_by line)) (take l.place l.lines)
