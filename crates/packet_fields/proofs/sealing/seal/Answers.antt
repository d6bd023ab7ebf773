use Rattle.std.proofs.Common.{◌∙◌, sym, ap, subst, arith, List, ℕ}
use Rattle.packet_fields.specs.Fields.{value}
use Rattle.packet_fields.specs.Checksums.{sealed, IsBytes, HasRightSums}
use Rattle.packet_fields.proofs.Sealed.{value-sealed}
use Rattle.packet_fields.proofs.Rightness.{sealed_own}
use Rattle.packet_fields.proofs.RightFrames.{right_sums-sealed}
use Rattle.packet_fields.proofs.sealing.seal.Goals as goal

pub returns-clause-fields : goal.returns-clause-fields
returns-clause-fields c = λ f. ap (λ (xs : List ℕ). value f xs) c.seal_frame.ensures ∙ value-sealed c.args.before.now c.args.after.now f

pub returns-clause-own : goal.returns-clause-own
returns-clause-own c = λ same.
    let bytes : IsBytes c.args.before.now = λ i. let byte = c.type_inv.before i in omega (arith, byte) in
    c.seal_frame.ensures ∙ (ap (λ (xs : List ℕ). sealed c.args.before.now xs) (sym same) ∙ (sealed_own c.args.before.now bytes ∙ same))

pub returns-clause-right : goal.returns-clause-right
returns-clause-right c = λ same right.
    let bytes : IsBytes c.args.before.now = λ i. let byte = c.type_inv.before i in omega (arith, byte) in
    subst (λ (xs : List ℕ). HasRightSums xs) (sym c.seal_frame.ensures) (right_sums-sealed c.args.before.now c.args.after.now bytes same right)
