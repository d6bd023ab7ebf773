use Rattle.std.proofs.Common.{◌≡◌, ◌++◌, ◌%◌, length}
use Rattle.pcapng_io.specs.Options.{copied, front_length}
use Rattle.pcapng_io.proofs.options.copied.Given as goal

abbrev pub invariant-options : goal.invariant-options
invariant-options l = (l.options.items ++ copied l.order l.rest ≡ copied l.order l.bytes) × (length l.rest % 4 ≡ 0) × (l.size ≡ front_length l.order l.rest)

abbrev pub decreases-options : goal.decreases-options
decreases-options l = length l.rest
