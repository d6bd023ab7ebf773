-- Which answer is due.
use Rattle.std.proofs.Common.{◌≡◌, ℕ, zero, suc, ◌+◌, ◌<◌, Bool, true, List, [], ◌∷◌, length, Some, None, Ok, Err, refl, ap, ◌∙◌, arith, replicate}
use Rattle.std.specs.Prelude.{Result, filter, find}
use Rattle.std.specs.List.{range_with_len}
use Rattle.policy_text.specs.declared.policy.ChainPolicy.{ChainPolicy}
use Rattle.policy_check.specs.declared.fault.Order.{Order}
use Rattle.policy_check.specs.declared.fault.CheckFault.{CheckFault}
use Rattle.policy_check.specs.declared.fault.CheckFault.TheVariants.{Cycle, PriorityForbidden, OutOfMemory}
use Rattle.policy_check.specs.Checked.{left_of, order_of, answer_of, IsFaultDue}
use Rattle.policy_check.specs.Cycles.{named_cycle}
use Rattle.policy_check.specs.Edges.{Edges, edges_of}
use Rattle.policy_check.specs.Refusals.{first_refusal}
use Rattle.policy_check.specs.Turns.{taken, stuck}
use Rattle.policy_check.specs.Waiting.{is_up, waits}

-- at first all wait

up-replicate : (n x : ℕ) → x < n → is_up (replicate n true) x ≡ true
up-replicate zero x l = absurd (omega arith)
up-replicate (suc n) zero l = refl
up-replicate (suc n) (suc x) l = up-replicate n x (omega arith)

filter-range : (p : ℕ → Bool) (a n : ℕ) → ((k : ℕ) → k < a + n → p k ≡ true) → filter p (range_with_len a n) ≡ range_with_len a n
filter-range p a zero h = refl
filter-range p a (suc n) h =
    let here = h a (omega arith) in
    rw here (ap (λ t. a ∷ t) (filter-range p (a + 1) n (λ k l. h k (omega arith))))

pub length-replicate : (n : ℕ) → length (replicate n true) ≡ n
length-replicate zero = refl
length-replicate (suc n) = ap suc (length-replicate n)

all_wait : (n : ℕ) → waits (replicate n true) ≡ range_with_len 0 n
unfolding waits
all_wait n =
    ap (λ m. filter (is_up (replicate n true)) (range_with_len 0 m)) (length-replicate n) ∙ filter-range (is_up (replicate n true)) 0 n (λ k l. up-replicate n k (omega arith))

pub taken-all : (edge : Edges) (n : ℕ) → taken edge (length (replicate n true)) (waits (replicate n true)) ≡ order_of edge n
taken-all edge n = rw (length-replicate n, all_wait n) refl

pub stuck-all : (edge : Edges) (n : ℕ) → stuck edge (length (replicate n true)) (waits (replicate n true)) ≡ left_of edge n
stuck-all edge n = rw (length-replicate n, all_wait n) refl

-- some remain
pub cycle_due : (chain : ChainPolicy) (left : List ℕ) (start : ℕ) → left ≡ left_of (edges_of chain.statements) (length chain.functions) → find (λ x. true) left ≡ Some start → answer_of chain ≡ Err (Cycle (named_cycle (edges_of chain.statements) left))
unfolding answer_of
cycle_due chain [] start e f = cc
cycle_due chain (x ∷ left) start e f = rw (← e) refl

-- none remain, and a Priority is forbidden
pub priority_due : (chain : ChainPolicy) (left : List ℕ) (fault : CheckFault) → left ≡ left_of (edges_of chain.statements) (length chain.functions) → find (λ x. true) left ≡ None → first_refusal chain.functions chain.statements ≡ Some fault → answer_of chain ≡ Err fault
unfolding answer_of
priority_due chain [] fault e f r = rw (← e, r) refl
priority_due chain (x ∷ left) fault e f r = cc

pub order_due : (chain : ChainPolicy) (left order : List ℕ) → left ≡ left_of (edges_of chain.statements) (length chain.functions) → find (λ x. true) left ≡ None → first_refusal chain.functions chain.statements ≡ None → order ≡ order_of (edges_of chain.statements) (length chain.functions) → answer_of chain ≡ Ok (record { positions = order })
unfolding answer_of
order_due chain [] order e f r o = rw (← e, r, o) refl
order_due chain (x ∷ left) order e f r o = cc

pub IsFaultDue-from : (fault : CheckFault) (due : Result Order CheckFault) → due ≡ Err fault → IsFaultDue fault due
IsFaultDue-from (Cycle names) due e = e
IsFaultDue-from (PriorityForbidden high low line first second) due e = e
IsFaultDue-from OutOfMemory due e = tt
