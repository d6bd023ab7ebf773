-- What the due answer says about the chain.
use Rattle.std.proofs.Common.{◌≡◌, ℕ, ◌<◌, List, [], ◌∷◌, length, Some, None, Ok, Err, refl, ap, ◌∙◌, subst, slice_get, IfOk, IfErr}
use Rattle.std.specs.Prelude.{Result, option_and_then}
use Rattle.std.specs.Option.{option_or, option_map}
use Rattle.std.proofs.lemmas.Option.{slice_get_within}
use Rattle.action_profile.specs.Profiles.{profile_of}
use Rattle.dependency_table.specs.Table.{pair_of}
use Rattle.dependency_table.specs.declared.action.Answer.{Answer}
use Rattle.dependency_table.specs.declared.action.Answer.TheVariants.{Forbidden}
use Rattle.policy_text.specs.declared.policy.ChainPolicy.{ChainPolicy}
use Rattle.policy_text.specs.declared.policy.FunctionDecl.{FunctionDecl}
use Rattle.policy_text.specs.declared.policy.Statement.{Statement}
use Rattle.policy_text.specs.declared.policy.Statement.TheVariants.{Priority}
use Rattle.policy_check.specs.declared.fault.CheckFault.{CheckFault}
use Rattle.policy_check.specs.declared.fault.CheckFault.TheVariants.{Cycle, PriorityForbidden, OutOfMemory}
use Rattle.policy_check.specs.Arrangements.{IsArrangement, IsSoundFault, TakesEarliest}
use Rattle.policy_check.specs.Checked.{order_of, left_of, verdict, answer_of, Answers}
use Rattle.policy_check.specs.Cycles.{named_cycle}
use Rattle.policy_check.specs.Edges.{Edges, edges_of}
use Rattle.policy_check.specs.Refusals.{refused, refusal, first_refusal}
use Rattle.policy_check.proofs.Arranging.{arranged}
use Rattle.policy_check.proofs.Choosing.{takes_earliest}
use Rattle.policy_check.proofs.Naming.{named_cycle_real, named_cycle_below, named_cycle_first}
use Rattle.policy_check.specs.declared.fault.Order.{Order}

due-arranged : (chain : ChainPolicy) (order : Order) → answer_of chain ≡ Ok order → IsArrangement (edges_of chain.statements) (length chain.functions) order.positions
unfolding answer_of
due-arranged chain order e =
    let edge = edges_of chain.statements in
    let count = length chain.functions in
    elim (left_of edge count) as (λ l. left_of edge count ≡ l → verdict edge l (first_refusal chain.functions chain.statements) (order_of edge count) ≡ Ok order → IsArrangement edge count order.positions) [
      | [] ↦ λ none d. elim (first_refusal chain.functions chain.statements) as (λ r. verdict edge [] r (order_of edge count) ≡ Ok order → IsArrangement edge count order.positions) [
        | None ↦ λ f. let same : order_of edge count ≡ order.positions = cc in rw (← same) (arranged edge count none)
        | Some fault ↦ λ f. cc
      ] d
      | x ∷ l ↦ λ none d. cc
    ] refl e

pub order_arranged : (chain : ChainPolicy) (result : Result Order CheckFault) → Answers result (answer_of chain) → IfOk result (λ order. IsArrangement (edges_of chain.statements) (length chain.functions) order.positions)
order_arranged chain (Ok order) h = due-arranged chain order h
order_arranged chain (Err fault) h = tt

due-taken : (chain : ChainPolicy) (order : Order) → answer_of chain ≡ Ok order → order_of (edges_of chain.statements) (length chain.functions) ≡ order.positions
unfolding answer_of
due-taken chain order e =
    let edge = edges_of chain.statements in
    let count = length chain.functions in
    elim (left_of edge count) as (λ l. verdict edge l (first_refusal chain.functions chain.statements) (order_of edge count) ≡ Ok order → order_of edge count ≡ order.positions) [
      | [] ↦ λ d. elim (first_refusal chain.functions chain.statements) as (λ r. verdict edge [] r (order_of edge count) ≡ Ok order → order_of edge count ≡ order.positions) [
        | None ↦ λ f. cc
        | Some fault ↦ λ f. absurd cc
      ] d
      | x ∷ l ↦ λ d. absurd cc
    ] e

pub order_earliest : (chain : ChainPolicy) (result : Result Order CheckFault) → Answers result (answer_of chain) → IfOk result (λ order. TakesEarliest (edges_of chain.statements) (length chain.functions) order.positions)
order_earliest chain (Ok order) h = let P : List ℕ → Type 0 = λ o. TakesEarliest (edges_of chain.statements) (length chain.functions) o in subst P (due-taken chain order h) (takes_earliest (edges_of chain.statements) (length chain.functions))
order_earliest chain (Err fault) h = tt

refused-sound : (edge : Edges) (count high low line : ℕ) (answer : Answer) (fault : CheckFault) → high < count → low < count → refused high low line answer ≡ Some fault → IsSoundFault edge count fault
refused-sound edge count high low line (Forbidden first second) fault h l e =
    let same : PriorityForbidden high low line first second ≡ fault = cc in
    subst (IsSoundFault edge count) same (h, l)
refused-sound edge count high low line answer fault h l e = cc

-- a refused Priority concerns two functions of the chain
refusal-within : (edge : Edges) (functions : List FunctionDecl) (s : Statement) (fault : CheckFault) → refusal functions s ≡ Some fault → IsSoundFault edge (length functions) fault
refusal-within edge functions (Priority high low line) fault e =
    elim (slice_get functions low) as (λ a. slice_get functions low ≡ a → option_and_then (refused high low line) (option_and_then (λ x. option_map (λ y. pair_of (profile_of x.kind) (profile_of y.kind)) (slice_get functions high)) a) ≡ Some fault → IsSoundFault edge (length functions) fault) [
      | None ↦ λ l f. cc
      | Some x ↦ λ l f. elim (slice_get functions high) as (λ b. slice_get functions high ≡ b → option_and_then (refused high low line) (option_map (λ y. pair_of (profile_of x.kind) (profile_of y.kind)) b) ≡ Some fault → IsSoundFault edge (length functions) fault) [
        | None ↦ λ h g. cc
        | Some y ↦ λ h g. refused-sound edge (length functions) high low line (pair_of (profile_of x.kind) (profile_of y.kind)) fault (slice_get_within functions high y h) (slice_get_within functions low x l) g
      ] refl f
    ] refl e
refusal-within edge functions s fault e = cc

first_refusal-within : (edge : Edges) (functions : List FunctionDecl) (statements : List Statement) (fault : CheckFault) → first_refusal functions statements ≡ Some fault → IsSoundFault edge (length functions) fault
unfolding first_refusal
first_refusal-within edge functions [] fault e = cc
first_refusal-within edge functions (s ∷ statements) fault e =
    elim (refusal functions s) as (λ r. refusal functions s ≡ r → option_or r (first_refusal functions statements) ≡ Some fault → IsSoundFault edge (length functions) fault) [
      | None ↦ λ r f. first_refusal-within edge functions statements fault f
      | Some found ↦ λ r f. let same : found ≡ fault = cc in refusal-within edge functions s fault (r ∙ ap (λ x. Some x) same)
    ] refl e

due-sound : (chain : ChainPolicy) (fault : CheckFault) → answer_of chain ≡ Err fault → IsSoundFault (edges_of chain.statements) (length chain.functions) fault
unfolding answer_of
due-sound chain fault e =
    let edge = edges_of chain.statements in
    let count = length chain.functions in
    elim (left_of edge count) as (λ l. left_of edge count ≡ l → verdict edge l (first_refusal chain.functions chain.statements) (order_of edge count) ≡ Err fault → IsSoundFault edge count fault) [
      | [] ↦ λ none d. elim (first_refusal chain.functions chain.statements) as (λ r. first_refusal chain.functions chain.statements ≡ r → verdict edge [] r (order_of edge count) ≡ Err fault → IsSoundFault edge count fault) [
        | None ↦ λ r f. cc
        | Some found ↦ λ r f. let same : found ≡ fault = cc in first_refusal-within edge chain.functions chain.statements fault (r ∙ ap (λ x. Some x) same)
      ] refl d
      | x ∷ l ↦ λ some d.
          let P : List ℕ → Type 0 = λ left. IsSoundFault edge count (Cycle (named_cycle edge left)) in
          let same : Cycle (named_cycle edge (x ∷ l)) ≡ fault = cc in
          subst (IsSoundFault edge count) same (subst P some (named_cycle_real edge count (λ none. cc), named_cycle_below edge count, named_cycle_first edge count (λ none. cc)))
    ] refl e

pub fault_sound : (chain : ChainPolicy) (result : Result Order CheckFault) → Answers result (answer_of chain) → IfErr result (IsSoundFault (edges_of chain.statements) (length chain.functions))
fault_sound chain (Ok order) h = tt
fault_sound chain (Err (Cycle names)) h = due-sound chain (Cycle names) h
fault_sound chain (Err (PriorityForbidden high low line first second)) h = due-sound chain (PriorityForbidden high low line first second) h
fault_sound chain (Err OutOfMemory) h = tt
