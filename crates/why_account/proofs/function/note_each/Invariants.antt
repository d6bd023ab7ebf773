use Rattle.std.proofs.Common.{◌≡◌, ◌++◌, ◌∷◌, [], ℕ, List, Bool, map}
use Rattle.std.specs.Prelude.{Some}
use Rattle.policy_text.specs.declared.policy.FunctionDecl.{FunctionDecl}
use Rattle.traced_run.specs.Telling.{told}
use Rattle.traced_walk.specs.Ways.{Way}
use Rattle.why_account.specs.Accounts.{function_account}
use Rattle.why_account.proofs.Parts.{done_to}
use Rattle.why_account.proofs.function.note_each.Given as goal

-- the functions before this one are noted
abbrev pub invariant-functions : goal.invariant-functions
invariant-functions l =
    (number : ℕ) → (order decls : List FunctionDecl) → (ways : List Way) → (way : Way) → (keeps : Bool) → way.class ≡ Some number → l.acts ≡ map (told keeps) way.acts
    → l.initial.functions ≡ map (function_account number order ways) decls
    → l.functions ≡ done_to (function_account number order (ways ++ way ∷ [])) (function_account number order ways) l.function-index decls
