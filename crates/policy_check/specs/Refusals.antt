-- Believed: priorities that the dependency table forbids.
use Rattle.std.specs.Prelude.{ℕ, List, [], ◌∷◌, Option, Some, None, slice_get, option_and_then}
use Rattle.std.specs.Option.{option_or, option_map}
use Rattle.action_profile.specs.Profiles.{profile_of}
use Rattle.dependency_table.specs.declared.action.Answer.{Answer}
use Rattle.dependency_table.specs.declared.action.Answer.TheVariants.{Forbidden}
use Rattle.dependency_table.specs.Table.{pair_of}
use Rattle.policy_text.specs.declared.policy.FunctionDecl.{FunctionDecl}
use Rattle.policy_text.specs.declared.policy.Statement.{Statement}
use Rattle.policy_text.specs.declared.policy.Statement.TheVariants.{Priority}
use Rattle.policy_check.specs.declared.fault.CheckFault.{CheckFault}
use Rattle.policy_check.specs.declared.fault.CheckFault.TheVariants.{PriorityForbidden}

-- what the table says about two functions, of which the first is before the second
abbrev pub table_at : List FunctionDecl → ℕ → ℕ → Option Answer
table_at functions first second =
    option_and_then (λ x. option_map (λ y. pair_of (profile_of x.kind) (profile_of y.kind)) (slice_get functions second)) (slice_get functions first)

abbrev pub refused : ℕ → ℕ → ℕ → Answer → Option CheckFault
refused high low line (Forbidden first second) = Some (PriorityForbidden high low line first second)
refused high low line answer = None

-- a Priority is refused if the lower function may not be before the higher one
abbrev pub refusal : List FunctionDecl → Statement → Option CheckFault
refusal functions (Priority high low line) = option_and_then (refused high low line) (table_at functions low high)
refusal functions statement = None

-- the first in the text
unfoldable pub first_refusal : List FunctionDecl → List Statement → Option CheckFault
first_refusal functions [] = None
first_refusal functions (s ∷ statements) = option_or (refusal functions s) (first_refusal functions statements)
