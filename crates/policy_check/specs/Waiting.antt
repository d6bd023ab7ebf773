-- For proofs: functions that still wait, as flags: one for each function as declared.
use Rattle.std.specs.Prelude.{ℕ, Bool, false, not, ◌==◌, ◌&&◌, List, length, filter}
use Rattle.std.specs.List.{list_any, range_with_len, slice_index_or}
use Rattle.policy_text.specs.declared.policy.Statement.{Statement}
use Rattle.policy_text.specs.declared.policy.Statement.TheVariants.{Order, Priority, First, Last}

abbrev pub is_up : List Bool → ℕ → Bool
is_up flags x = slice_index_or flags x false

-- the functions whose flag is set, in declared order
unfoldable pub waits : List Bool → List ℕ
waits flags = filter (is_up flags) (range_with_len 0 (length flags))

-- a statement draws an edge to x from a function that waits
abbrev pub holds_back : List Bool → ℕ → Statement → Bool
holds_back flags x (Order a b line) = (x == b) && is_up flags a
holds_back flags x (Priority high low line) = (x == high) && is_up flags low
holds_back flags x (First y line) = not (x == y) && is_up flags y
holds_back flags x (Last y line) = (x == y) && list_any (λ a. not (a == y)) (waits flags)
