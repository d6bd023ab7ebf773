-- For proofs: the lines in which a function with its name reports its state, each by itself.
use Rattle.std.specs.Prelude.{ℕ, List}
use Rattle.net_functions.specs.StateRows.{rows_of}
use Rattle.policy_chains.specs.declared.named.NamedFunction.{NamedFunction}

abbrev pub named_rows : NamedFunction → List (List ℕ)
named_rows f = rows_of f.function
