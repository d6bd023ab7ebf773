-- The first forbidden Priority is the first in the text.
use Rattle.std.proofs.Common.{◌≡◌, ℕ, List, [], ◌∷◌, Some, None, refl, sym, ap, ◌∙◌, subst}
use Rattle.std.specs.Prelude.{All, option_and_then}
use Rattle.std.specs.Option.{option_or}
use Rattle.std.proofs.lemmas.List.Elements.{All-cons, All-from_recursion}
use Rattle.std.specs.List.{AllByRecursion}
use Rattle.dependency_table.specs.declared.action.Action.{Action}
use Rattle.dependency_table.specs.declared.action.Answer.{Answer}
use Rattle.dependency_table.specs.declared.action.Answer.TheVariants.{Forbidden}
use Rattle.policy_text.specs.declared.policy.FunctionDecl.{FunctionDecl}
use Rattle.policy_text.specs.declared.policy.Statement.{Statement}
use Rattle.policy_text.specs.declared.policy.Statement.TheVariants.{Priority}
use Rattle.policy_check.specs.declared.fault.CheckFault.{CheckFault}
use Rattle.policy_check.specs.declared.fault.CheckFault.TheVariants.{PriorityForbidden}
use Rattle.policy_check.specs.Firsts.{IsAllowed, IsForbiddenAs, IsFirstForbidden}
use Rattle.policy_check.specs.Refusals.{table_at, refused, refusal, first_refusal}

allowed-refused : (high low line : ℕ) (answer : Answer) (first second : Action) → refused high low line answer ≡ None → answer ≡ Forbidden first second → ⊥
allowed-refused high low line (Forbidden a b) first second e f = cc
allowed-refused high low line answer first second e f = cc

-- what isn't refused is allowed
allowed : (functions : List FunctionDecl) (s : Statement) → refusal functions s ≡ None → IsAllowed functions s
allowed functions (Priority high low line) e = λ first second t.
    allowed-refused high low line (Forbidden first second) first second (sym (ap (λ o. option_and_then (refused high low line) o) t) ∙ e) refl
allowed functions s e = tt

refused-as : (functions : List FunctionDecl) (high low line : ℕ) (answer : Answer) (fault : CheckFault) → table_at functions low high ≡ Some answer → refused high low line answer ≡ Some fault → IsForbiddenAs functions fault (Priority high low line)
refused-as functions high low line (Forbidden first second) fault t e =
    let same : PriorityForbidden high low line first second ≡ fault = cc in
    let P : CheckFault → Type 0 = λ f. IsForbiddenAs functions f (Priority high low line) in
    subst P same (refl, t)
refused-as functions high low line answer fault t e = absurd cc

-- what is refused is forbidden
forbidden : (functions : List FunctionDecl) (s : Statement) (fault : CheckFault) → refusal functions s ≡ Some fault → IsForbiddenAs functions fault s
forbidden functions (Priority high low line) fault e =
    elim (table_at functions low high) as (λ o. table_at functions low high ≡ o → option_and_then (refused high low line) o ≡ Some fault → IsForbiddenAs functions fault (Priority high low line)) [
      | None ↦ λ t f. absurd cc
      | Some answer ↦ λ t f. refused-as functions high low line answer fault t f
    ] refl e
forbidden functions s fault e = absurd cc

pub named_first : (functions : List FunctionDecl) (statements : List Statement) (fault : CheckFault) → first_refusal functions statements ≡ Some fault → IsFirstForbidden functions statements fault
unfolding first_refusal
named_first functions [] fault e = absurd cc
named_first functions (s ∷ statements) fault e =
    elim (refusal functions s) as (λ r. refusal functions s ≡ r → option_or r (first_refusal functions statements) ≡ Some fault → IsFirstForbidden functions (s ∷ statements) fault) [
      | None ↦ λ r f.
          let rest = named_first functions statements fault f in
          record { before = s ∷ rest.before; named = rest.named; behind = rest.behind; text = ap (λ t. s ∷ t) rest.text; allowed = All-cons (IsAllowed functions) s rest.before (allowed functions s r) rest.allowed; forbidden = rest.forbidden }
      | Some found ↦ λ r f.
          let same : found ≡ fault = cc in
          record { before = []; named = s; behind = statements; text = refl; allowed = All-from_recursion (IsAllowed functions) [] tt; forbidden = forbidden functions s fault (r ∙ ap (λ x. Some x) same) }
    ] refl e

all-allowed : (functions : List FunctionDecl) (statements : List Statement) → first_refusal functions statements ≡ None → AllByRecursion (IsAllowed functions) statements
unfolding first_refusal
all-allowed functions [] e = tt
all-allowed functions (s ∷ statements) e =
    elim (refusal functions s) as (λ r. refusal functions s ≡ r → option_or r (first_refusal functions statements) ≡ None → IsAllowed functions s × AllByRecursion (IsAllowed functions) statements) [
      | None ↦ λ r f. (allowed functions s r, all-allowed functions statements f)
      | Some found ↦ λ r f. absurd cc
    ] refl e

pub none_named : (functions : List FunctionDecl) (statements : List Statement) → first_refusal functions statements ≡ None → All (IsAllowed functions) statements
none_named functions statements e = All-from_recursion (IsAllowed functions) statements (all-allowed functions statements e)
