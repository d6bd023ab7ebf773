use Rattle.std.proofs.Common.{length}
use Rattle.plan_text.specs.Putting.{IsPut}
use Rattle.plan_text.proofs.pieces.put_pieces.Given as goal

-- the pieces of the rest are still to be put
abbrev pub invariant-pieces : goal.invariant-pieces
invariant-pieces l = IsPut l.functions l.order l.rest l.number l.fn.out.items l.out.items

abbrev pub decreases-pieces : goal.decreases-pieces
decreases-pieces l = length l.rest
