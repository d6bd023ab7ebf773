use Rattle.std.proofs.Common.{length}
use Rattle.watched_desk.proofs.block_count.BlockCount.follow.Given as goal

abbrev pub decreases-pieces : goal.decreases-pieces
decreases-pieces l = length l.rest
