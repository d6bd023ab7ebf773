-- Worked rows, computed by the definitions.
use Rattle.std.proofs.Common.{◌≡◌, refl, List, [], ◌∷◌}
use Rattle.std.specs.Prelude.{Ok, Err, codes}
use Rattle.packet_fields.specs.declared.field.Field.TheVariants.{SrcIp}
use Rattle.action_profile.specs.declared.kind.Kind.{Kind}
use Rattle.action_profile.specs.declared.kind.Kind.TheVariants.{Firewall, Signature, Monitor, Nat}
use Rattle.dependency_table.specs.Actions.{all_actions, actions}
use Rattle.dependency_table.specs.Table.{pairs, first_forbidden, is_copied, copied, pair_of}
use Rattle.dependency_table.specs.declared.action.Action.TheVariants.{Read, Write}
use Rattle.policy_text.specs.declared.policy.ChainPolicy.{ChainPolicy}
use Rattle.policy_text.specs.declared.policy.FunctionDecl.{FunctionDecl}
use Rattle.policy_text.specs.declared.policy.Statement.{Statement}
use Rattle.policy_text.specs.declared.policy.Statement.TheVariants.{Order, Priority, First, Last}
use Rattle.policy_check.specs.declared.fault.CheckFault.TheVariants.{Cycle, PriorityForbidden}
use Rattle.policy_check.specs.Checked.{answer_of}
use Rattle.policy_check.specs.Cycles.{cycle_back, from_earliest, named_cycle}
use Rattle.policy_check.specs.Edges.{edges_of}
use Rattle.policy_check.specs.Refusals.{first_refusal}
use Rattle.policy_check.specs.Turns.{taken, stuck}

-- a function of this kind; its name and line don't matter
a : Kind → FunctionDecl
a kind = record { name = []; line = 1; kind = kind; settings = [] }

chain_of : List FunctionDecl → List Statement → ChainPolicy
chain_of functions statements = record {
  name = codes "main";
  line = 2;
  fit = record { clauses = [] };
  functions = functions;
  statements = statements;
}

-- `priority sig > fw`: what sig writes prevails, so fw comes first
prevails : answer_of (chain_of (a Signature ∷ a Firewall ∷ []) (Priority 0 1 5 ∷ [])) ≡ Ok (record { positions = 1 ∷ 0 ∷ [] })
unfolding answer_of a chain_of edges_of taken stuck named_cycle from_earliest cycle_back first_refusal pair_of first_forbidden pairs actions all_actions is_copied copied
prevails = refl

-- `priority mon > n` over a nat
forbidden : answer_of (chain_of (a Monitor ∷ a Nat ∷ []) (Priority 0 1 8 ∷ [])) ≡ Err (PriorityForbidden 0 1 8 (Write SrcIp) (Read SrcIp))
unfolding answer_of a chain_of edges_of taken stuck named_cycle from_earliest cycle_back first_refusal pair_of first_forbidden pairs actions all_actions is_copied copied
forbidden = refl

-- `order a before b`, `priority a > b`
two_cycle : answer_of (chain_of (a Monitor ∷ a Monitor ∷ []) (Order 0 1 5 ∷ Priority 0 1 6 ∷ [])) ≡ Err (Cycle (0 ∷ 1 ∷ []))
unfolding answer_of a chain_of edges_of taken stuck named_cycle from_earliest cycle_back first_refusal pair_of first_forbidden pairs actions all_actions is_copied copied
two_cycle = refl

-- `order a before a`
own_cycle : answer_of (chain_of (a Monitor ∷ []) (Order 0 0 4 ∷ [])) ≡ Err (Cycle (0 ∷ []))
unfolding answer_of a chain_of edges_of taken stuck named_cycle from_earliest cycle_back first_refusal pair_of first_forbidden pairs actions all_actions is_copied copied
own_cycle = refl

-- a forbidden Priority beside a cycle isn't tested
untested : answer_of (chain_of (a Monitor ∷ a Nat ∷ a Monitor ∷ []) (Priority 0 1 5 ∷ Order 2 2 6 ∷ [])) ≡ Err (Cycle (2 ∷ []))
unfolding answer_of a chain_of edges_of taken stuck named_cycle from_earliest cycle_back first_refusal pair_of first_forbidden pairs actions all_actions is_copied copied
untested = refl

-- the cycle 1 3 2, reached from 0, which depends on it; 4 is free
later_cycle : answer_of (chain_of (a Monitor ∷ a Monitor ∷ a Monitor ∷ a Monitor ∷ a Monitor ∷ []) (Order 2 0 7 ∷ Order 1 3 8 ∷ Order 3 2 9 ∷ Order 2 1 10 ∷ [])) ≡ Err (Cycle (1 ∷ 3 ∷ 2 ∷ []))
unfolding answer_of a chain_of edges_of taken stuck named_cycle from_earliest cycle_back first_refusal pair_of first_forbidden pairs actions all_actions is_copied copied
later_cycle = refl

-- of two ways back the one to the earliest declared is taken
earliest_way : answer_of (chain_of (a Monitor ∷ a Monitor ∷ a Monitor ∷ []) (Order 2 0 6 ∷ Order 1 0 7 ∷ Order 0 1 8 ∷ Order 0 2 9 ∷ [])) ≡ Err (Cycle (0 ∷ 1 ∷ []))
unfolding answer_of a chain_of edges_of taken stuck named_cycle from_earliest cycle_back first_refusal pair_of first_forbidden pairs actions all_actions is_copied copied
earliest_way = refl

-- `position` also covers functions declared later: the last declared first, the first declared last
positions : answer_of (chain_of (a Firewall ∷ a Signature ∷ a Firewall ∷ []) (First 2 3 ∷ Last 0 4 ∷ [])) ≡ Ok (record { positions = 2 ∷ 1 ∷ 0 ∷ [] })
unfolding answer_of a chain_of edges_of taken stuck named_cycle from_earliest cycle_back first_refusal pair_of first_forbidden pairs actions all_actions is_copied copied
positions = refl

-- two that are both first
two_first : answer_of (chain_of (a Firewall ∷ a Signature ∷ []) (First 1 4 ∷ First 0 5 ∷ [])) ≡ Err (Cycle (0 ∷ 1 ∷ []))
unfolding answer_of a chain_of edges_of taken stuck named_cycle from_earliest cycle_back first_refusal pair_of first_forbidden pairs actions all_actions is_copied copied
two_first = refl
