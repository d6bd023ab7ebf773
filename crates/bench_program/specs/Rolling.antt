-- For proofs: packets that come and go in the order of their numbers.
use Rattle.std.specs.Prelude.{ℕ, ◌≡◌, ◌<◌, ◌≤◌, None, slice_index_or}
use Rattle.acc_table.specs.Arrivals.{Table, IsOpen, arrivals, nothing}

-- The packets from the first up to the next are open and wait for their second branch, and nothing has arrived for
-- those after them.
pub record Rolls (t : Table ℕ) (first next : ℕ) : Type 0 where
  pub branches : t.branches ≡ 2
  pub waiting : (p : ℕ) → first ≤ p → p < next → IsOpen t p
  pub second : (p : ℕ) → first ≤ p → p < next → slice_index_or (arrivals t p) 1 None ≡ None
  pub fresh : (p : ℕ) → next ≤ p → arrivals t p ≡ nothing 2
