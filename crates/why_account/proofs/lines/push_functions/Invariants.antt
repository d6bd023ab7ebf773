use Rattle.std.proofs.Common.{◌≡◌, ◌++◌, ℕ, List, map, take}
use Rattle.std.specs.List.{flat_map}
use Rattle.policy_text.specs.declared.policy.FunctionDecl.{FunctionDecl}
use Rattle.traced_walk.specs.Ways.{Way}
use Rattle.why_account.specs.Accounts.{function_account, function_lines_of}
use Rattle.why_account.proofs.lines.push_functions.Given as goal

-- the lines of the functions so far
abbrev pub invariant-decls : goal.invariant-decls
invariant-decls l =
    (number : ℕ) → (order : List FunctionDecl) → (ways : List Way) → l.functions ≡ map (function_account number order ways) l.decls
    → l.text.items ≡ l.fn.text.items ++ flat_map (function_lines_of l.chain number order ways) (take l.place l.decls)
