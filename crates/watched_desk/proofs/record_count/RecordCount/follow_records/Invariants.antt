use Rattle.std.proofs.Common.{length}
use Rattle.watched_desk.proofs.record_count.RecordCount.follow_records.Given as goal

abbrev pub decreases-pieces : goal.decreases-pieces
decreases-pieces l = length l.rest
