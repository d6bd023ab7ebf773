use Rattle.std.proofs.Common.{arith, sym}
use Rattle.policy_text.proofs.GroupReading.{read_room, read_hex_digit}
use Rattle.policy_text.proofs.value6.group.Goals as goal

pub overflow_mul-value : goal.overflow_mul-value
overflow_mul-value c =
    let room = read_room c.args.text.now c.digits.digit-index c.digits.value c.digits-test.true (omega arith) c.digits.invariant in
    omega arith

pub overflow_add-value : goal.overflow_add-value
overflow_add-value c =
    let room = read_room c.args.text.now c.digits.digit-index c.digits.value c.digits-test.true (omega arith) c.digits.invariant in
    rw c.from.ensures (omega (arith, c.in_ok-hex_digit.ensures.small))

pub digits-preserved : goal.digits-preserved
digits-preserved c =
    rw c.from.ensures (read_hex_digit c.args.text.now c.digits.digit-index c.digits.value c.in_ok-hex_digit.field-0 c.digits-test.true c.digits.invariant (sym c.in_ok-hex_digit.ensures.value))
