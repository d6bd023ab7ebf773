-- Believed: the edges that the statements of a chain draw between its functions, counted from 0 as declared.
use Rattle.std.specs.Prelude.{ℕ, Bool, ◌==◌, ◌&&◌, not, List}
use Rattle.std.specs.List.{list_any}
use Rattle.policy_text.specs.declared.policy.Statement.{Statement}
use Rattle.policy_text.specs.declared.policy.Statement.TheVariants.{Order, Priority, First, Last}

-- a set of edges: whether there is one from the first function to the second
abbrev pub Edges : Type 0
Edges = ℕ → ℕ → Bool

-- the edges of a statement; what a function of higher priority writes prevails if it comes later
abbrev pub draws : Statement → Edges
draws (Order a b line) from to = (from == a) && (to == b)
draws (Priority high low line) from to = (from == low) && (to == high)
draws (First x line) from to = (from == x) && not (to == x)
draws (Last x line) from to = (to == x) && not (from == x)

-- the edges of all statements
unfoldable pub edges_of : List Statement → Edges
edges_of statements from to = list_any (λ s. draws s from to) statements
