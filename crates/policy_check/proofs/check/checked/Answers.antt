use Rattle.std.proofs.Common.{◌∙◌, sym, ap, Err}
use Rattle.policy_check.specs.declared.fault.CheckFault.TheVariants.{Cycle}
use Rattle.policy_check.proofs.Deciding.{cycle_due, priority_due, order_due, IsFaultDue-from}
use Rattle.policy_check.proofs.check.checked.Goals as goal

pub returns-in-Some : goal.returns-in-Some
returns-in-Some c =
    let text = c.as_slice-statements.ensures in
    let left = rw (text, c.as_slice-functions.ensures) at c.in_ok-turns.ensures.left in
    let first = sym (rw c.deref.ensures.value at c.in-Some.ensures) in
    let cycle = c.new.ensures ∙ (rw (text, c.deref-in-Some.ensures.value) at c.in_ok-cycle.ensures) in
    cycle_due c.args.chain.now _ _ left first ∙ ap (λ names. Err (Cycle names)) (sym cycle)

pub returns-in-Some-first_refusal : goal.returns-in-Some-first_refusal
returns-in-Some-first_refusal c =
    let text = c.as_slice-statements.ensures in
    let left = rw (text, c.as_slice-functions.ensures) at c.in_ok-turns.ensures.left in
    let none = sym (rw c.deref.ensures.value at c.in_default.ensures) in
    let refusal = sym (rw (text, c.as_slice-functions.ensures) at c.in-Some-first_refusal.ensures) in
    IsFaultDue-from _ _ (priority_due c.args.chain.now _ _ left none refusal)

pub returns : goal.returns
returns c =
    let text = c.as_slice-statements.ensures in
    let left = rw (text, c.as_slice-functions.ensures) at c.in_ok-turns.ensures.left in
    let none = sym (rw c.deref.ensures.value at c.in_default.ensures) in
    let refusal = sym (rw (text, c.as_slice-functions.ensures) at c.in_default-first_refusal.ensures) in
    let order = c.new-2.ensures ∙ (rw (text, c.as_slice-functions.ensures) at c.in_ok-turns.ensures.order) in
    order_due c.args.chain.now _ _ left none refusal order
