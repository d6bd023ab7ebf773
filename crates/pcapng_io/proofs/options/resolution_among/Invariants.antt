use Rattle.std.proofs.Common.{length, ◌-◌}
use Rattle.pcapng_io.proofs.OptionList.{Searching}
use Rattle.pcapng_io.proofs.options.resolution_among.Given as goal

abbrev pub invariant-options : goal.invariant-options
invariant-options l = Searching l.order l.bytes l.at l.found

abbrev pub decreases-options : goal.decreases-options
decreases-options l = length l.bytes - l.at
