use Rattle.std.proofs.Common.{ℕ, ◌%◌, List, Option}
use Rattle.std.specs.List.{sum_by}
use Rattle.acc_table.specs.Links.{AreLinked, one_in}
use Rattle.acc_table.proofs.Walking.{Counts}
use Rattle.acc_table.proofs.links.Links.chain_len.Given as goal

-- this number is passed, and the others are ahead
abbrev pub invariant-loop-step : goal.invariant-loop-step
invariant-loop-step l = (buckets : ℕ) → (os : List (Option ℕ)) → AreLinked buckets os l.self → Counts l.self.nexts l.at l.step (sum_by (one_in buckets (l.pid % buckets)) os)
