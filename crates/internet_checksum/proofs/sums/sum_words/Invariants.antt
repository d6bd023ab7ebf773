use Rattle.std.proofs.Common.{length}
use Rattle.internet_checksum.proofs.Summing.{IsAtSum}
use Rattle.internet_checksum.proofs.sums.sum_words.Given as goal

abbrev pub invariant-words : goal.invariant-words
invariant-words l = IsAtSum l.sum l.bytes l.rest

abbrev pub decreases-words : goal.decreases-words
decreases-words l = length l.rest
