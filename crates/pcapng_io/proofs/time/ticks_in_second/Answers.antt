use Rattle.std.proofs.Common.{arith}
use Rattle.std.proofs.Math.Nat.{one-le-pow}
use Rattle.pcapng_io.proofs.time.ticks_in_second.Goals as goal

pub returns-then-resolution-lt-TWOS-clause-some : goal.returns-then-resolution-lt-TWOS-clause-some
returns-then-resolution-lt-TWOS-clause-some c = let some = one-le-pow c.from.result 10 (omega arith) in omega (arith, some, c.pow.ensures)
