use Rattle.std.proofs.Common.{arith}
use Rattle.packet_fields.proofs.Rightness.{sealed_own}
use Rattle.segment_run.proofs.sealing.unchanged_is_sealed.Goals as goal

pub returns : goal.returns
returns c = sealed_own c.args.frame.now (λ i. let byte = c.type_inv.frame i in omega (arith, byte))
