-- Believed: what checking a chain returns.
use Rattle.std.specs.Prelude.{◌≡◌, ℕ, List, [], ◌∷◌, length, Option, Some, None, Result, Ok, Err}
use Rattle.std.specs.List.{range_with_len}
use Rattle.policy_text.specs.declared.policy.ChainPolicy.{ChainPolicy}
use Rattle.policy_check.specs.declared.fault.Order.{Order}
use Rattle.policy_check.specs.declared.fault.CheckFault.{CheckFault}
use Rattle.policy_check.specs.declared.fault.CheckFault.TheVariants.{Cycle, OutOfMemory}
use Rattle.policy_check.specs.Cycles.{named_cycle}
use Rattle.policy_check.specs.Edges.{Edges, edges_of}
use Rattle.policy_check.specs.Refusals.{first_refusal}
use Rattle.policy_check.specs.Turns.{taken, stuck}

-- the functions in the order of their turns, one turn each
abbrev pub order_of : Edges → ℕ → List ℕ
order_of edge count = taken edge count (range_with_len 0 count)

-- the functions that get no turn, in declared order
abbrev pub left_of : Edges → ℕ → List ℕ
left_of edge count = stuck edge count (range_with_len 0 count)

-- a cycle if functions remain, else the first forbidden Priority, else the order
abbrev pub verdict : Edges → List ℕ → Option CheckFault → List ℕ → Result Order CheckFault
verdict edge (x ∷ left) forbidden order = Err (Cycle (named_cycle edge (x ∷ left)))
verdict edge [] (Some fault) order = Err fault
verdict edge [] None order = Ok (record { positions = order })

unfoldable pub answer_of : ChainPolicy → Result Order CheckFault
answer_of chain =
    let edge = edges_of chain.statements in
    let count = length chain.functions in
    verdict edge (left_of edge count) (first_refusal chain.functions chain.statements) (order_of edge count)

abbrev pub IsFaultDue : CheckFault → Result Order CheckFault → Type 0
IsFaultDue OutOfMemory due = Unit {0}
IsFaultDue fault due = due ≡ Err fault

-- the answer is the due one, unless it ran out of memory
abbrev pub Answers : Result Order CheckFault → Result Order CheckFault → Type 0
Answers (Ok order) due = due ≡ Ok order
Answers (Err fault) due = IsFaultDue fault due
