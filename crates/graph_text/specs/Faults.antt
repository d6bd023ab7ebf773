-- Believed: the faults of the stages that hold the functions of a chain.
use Rattle.std.specs.Prelude.{ℕ, ◌+◌, List, length, Bool, ◌&&◌, not, is_some, Option, Some, None, option_and_then, Result}
use Rattle.std.specs.Option.{option_map}
use Rattle.action_profile.specs.declared.rights.Profile.{Profile}
use Rattle.dependency_table.specs.Table.{pair_of}
use Rattle.dependency_table.specs.declared.action.Action.{Action}
use Rattle.dependency_table.specs.declared.action.Answer.{Answer}
use Rattle.dependency_table.specs.declared.action.Answer.TheVariants as answers
use Rattle.graph_compile.specs.Parts.{profile_at}
use Rattle.graph_compile.specs.declared.graph.Branch.{Branch}
use Rattle.policy_text.specs.Steps.{◌>>=◌, unless}
use Rattle.graph_text.specs.Chains.{declared}
use Rattle.graph_text.specs.Standing.{is_placed, comes_before, are_beside, least, least_pair}
use Rattle.graph_text.specs.declared.fault.GraphFault.{GraphFault}
use Rattle.graph_text.specs.declared.fault.GraphFault.TheVariants.{Missing, OutOfOrder, Forbidden}

-- a function of the chain is missing: the least position below this end
abbrev pub missing : ℕ → List (List Branch) → Option ℕ
missing end stages = least (λ p. not (is_placed p stages)) end

-- of two functions the later one of the chain comes before the earlier
abbrev pub is_out_of_order : List (List Branch) → ℕ → ℕ → Bool
is_out_of_order stages p q = comes_before q p stages

abbrev pub out_of_order : ℕ → List (List Branch) → Option (ℕ × ℕ)
out_of_order end stages = least_pair (is_out_of_order stages) end

-- the actions because of which the table forbids one function before another
abbrev pub actions_in : Answer → Option (Action × Action)
actions_in (answers.Forbidden a b) = Some (a, b)
actions_in answer = None

abbrev pub actions_between : List Profile → ℕ → ℕ → Option (Action × Action)
actions_between profiles p q =
    option_and_then (λ x. option_and_then (λ y. actions_in (pair_of x y)) (profile_at profiles q)) (profile_at profiles p)

-- two functions are in different branches of a stage though the table forbids the earlier one before the later
abbrev pub is_forbidden_beside : List Profile → List (List Branch) → ℕ → ℕ → Bool
is_forbidden_beside profiles stages p q = are_beside p q stages && is_some (actions_between profiles p q)

abbrev pub forbidden : ℕ → List Profile → List (List Branch) → Option (ℕ × ℕ)
forbidden end profiles stages = least_pair (is_forbidden_beside profiles stages) end

-- each reported for the chain at a place of the policy, whose functions are counted from 0 as declared
abbrev pub missing_fault : ℕ → List ℕ → List (List Branch) → Option GraphFault
missing_fault chain order stages = option_map (λ p. Missing chain (declared order p)) (missing (length order + 1) stages)

abbrev pub order_fault : ℕ → List ℕ → List (List Branch) → Option GraphFault
order_fault chain order stages =
    option_map (λ x. OutOfOrder chain (declared order x.0) (declared order x.1)) (out_of_order (length order + 1) stages)

abbrev pub forbidden_as : ℕ → List ℕ → List Profile → ℕ × ℕ → Option GraphFault
forbidden_as chain order profiles x =
    option_map (λ a. Forbidden chain (declared order x.0) (declared order x.1) a.0 a.1) (actions_between profiles x.0 x.1)

abbrev pub table_fault : ℕ → List ℕ → List Profile → List (List Branch) → Option GraphFault
table_fault chain order profiles stages =
    option_and_then (forbidden_as chain order profiles) (forbidden (length order + 1) profiles stages)

-- no such fault, or the first
unfoldable pub faultless : ℕ → List ℕ → List Profile → List (List Branch) → Result (Unit {0}) GraphFault
faultless chain order profiles stages = do
  _ ← unless (missing_fault chain order stages)
  _ ← unless (order_fault chain order stages)
  unless (table_fault chain order profiles stages)
