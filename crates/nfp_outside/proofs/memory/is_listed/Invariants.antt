-- None of the calls so far is this one.
use Rattle.std.proofs.Common.{ℕ, ◌<◌, ◌≢◌, slice_index_or}
use Rattle.nfp_outside.proofs.memory.is_listed.Given as goal

abbrev pub invariant-loop-call : goal.invariant-loop-call
invariant-loop-call l = (k : ℕ) → k < l.call-index → slice_index_or l.fails k (l.slot, l.number) ≢ (l.slot, l.number)
