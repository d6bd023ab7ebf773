use Rattle.std.proofs.Common.{◌≡◌, ℕ, List, [], map, take}
use Rattle.policy_text.specs.declared.policy.FunctionDecl.{FunctionDecl}
use Rattle.why_account.specs.Accounts.{function_account}
use Rattle.why_account.proofs.function.FunctionAccounts.none.Given as goal

-- the accounts so far
abbrev pub invariant-decls : goal.invariant-decls
invariant-decls l = (number : ℕ) → (order : List FunctionDecl) → l.names ≡ map (λ d. d.name) order → l.items.items ≡ map (function_account number order []) (take l.decl-index l.decls)
