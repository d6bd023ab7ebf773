use Rattle.std.proofs.Common.{◌≡◌, map, take}
use Rattle.classifier.proofs.class_table.fits_of.Given as goal

abbrev pub invariant-loop-chain : goal.invariant-loop-chain
invariant-loop-chain l = l.fits.items ≡ map (λ c. c.fit) (take l.chain-index l.chains)
