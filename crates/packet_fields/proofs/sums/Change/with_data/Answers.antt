use Rattle.std.specs.Cmp.Lexicographic.{same_text}
use Rattle.packet_fields.proofs.WordSums.{same_words}
use Rattle.packet_fields.proofs.sums.Change.with_data.Goals as goal

pub returns-then-eq-clause-sum : goal.returns-then-eq-clause-sum
returns-then-eq-clause-sum c = (same_words c.args.self c.args.old.now c.args.new.now (same_text c.args.old.now c.args.new.now c.if-eq.ensures)).sum_is

pub returns-then-eq-clause-is_some : goal.returns-then-eq-clause-is_some
returns-then-eq-clause-is_some c = (same_words c.args.self c.args.old.now c.args.new.now (same_text c.args.old.now c.args.new.now c.if-eq.ensures)).changed
