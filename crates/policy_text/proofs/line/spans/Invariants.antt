use Rattle.std.proofs.Common.{length}
use Rattle.policy_text.proofs.Splitting.{HasWords}
use Rattle.policy_text.proofs.line.spans.Given as goal

abbrev pub invariant-pieces : goal.invariant-pieces
invariant-pieces l = HasWords l.text l.words.items l.column l.rest

abbrev pub decreases-pieces : goal.decreases-pieces
decreases-pieces l = length l.rest
