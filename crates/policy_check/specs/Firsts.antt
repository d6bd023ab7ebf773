-- For proofs: which Priority of a text is the first that the dependency table forbids.
use Rattle.std.specs.Prelude.{◌≡◌, ◌≢◌, List, ◌∷◌, ◌++◌, All, Some}
use Rattle.dependency_table.specs.declared.action.Action.{Action}
use Rattle.dependency_table.specs.declared.action.Answer.TheVariants.{Forbidden}
use Rattle.policy_text.specs.declared.policy.FunctionDecl.{FunctionDecl}
use Rattle.policy_text.specs.declared.policy.Statement.{Statement}
use Rattle.policy_text.specs.declared.policy.Statement.TheVariants.{Priority}
use Rattle.policy_check.specs.declared.fault.CheckFault.{CheckFault}
use Rattle.policy_check.specs.declared.fault.CheckFault.TheVariants.{PriorityForbidden}
use Rattle.policy_check.specs.Refusals.{table_at}

-- a Priority whose lower function may be before the higher one, or another statement
abbrev pub IsAllowed : List FunctionDecl → Statement → Type 0
IsAllowed functions (Priority high low line) = (first second : Action) → table_at functions low high ≢ Some (Forbidden first second)
IsAllowed functions statement = Unit {0}

-- the fault names this statement: a Priority whose lower function may not be before the higher one
abbrev pub IsForbiddenAs : List FunctionDecl → CheckFault → Statement → Type 0
IsForbiddenAs functions (PriorityForbidden high low line first second) statement =
    (statement ≡ Priority high low line) × (table_at functions low high ≡ Some (Forbidden first second))
IsForbiddenAs functions fault statement = ⊥

-- the fault names a statement of the text, and each before it is allowed
pub record IsFirstForbidden (functions : List FunctionDecl) (statements : List Statement) (fault : CheckFault) : Type 0 where
  pub before : List Statement
  pub named : Statement
  pub behind : List Statement
  pub text : statements ≡ before ++ named ∷ behind
  pub allowed : All (IsAllowed functions) before
  pub forbidden : IsForbiddenAs functions fault named
