use Rattle.std.proofs.Common.{arith, refl}
use Rattle.policy_text.proofs.Digits.{read_digit}
use Rattle.policy_text.proofs.value.digits_value.Goals as goal

pub overflow_mul-value : goal.overflow_mul-value
overflow_mul-value c =
    let r = read_digit c.args.text.now c.digits.b-index c.digits.value _ c.digits-test.true c.requires.short c.requires.digits c.digits.invariant refl in
    omega (arith, r.room)

pub overflow_sub-b : goal.overflow_sub-b
overflow_sub-b c = (read_digit c.args.text.now c.digits.b-index c.digits.value _ c.digits-test.true c.requires.short c.requires.digits c.digits.invariant refl).low

pub overflow_add-value : goal.overflow_add-value
overflow_add-value c =
    let r = read_digit c.args.text.now c.digits.b-index c.digits.value _ c.digits-test.true c.requires.short c.requires.digits c.digits.invariant refl in
    rw c.from.ensures (omega (arith, r.room))

pub digits-preserved : goal.digits-preserved
digits-preserved c =
    let r = read_digit c.args.text.now c.digits.b-index c.digits.value _ c.digits-test.true c.requires.short c.requires.digits c.digits.invariant refl in
    rw c.from.ensures r.more
