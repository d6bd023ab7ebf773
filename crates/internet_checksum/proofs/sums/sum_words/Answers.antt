use Rattle.std.proofs.Common.{◌+◌, ◌*◌, ℕ, ap, arith}
use Rattle.std.proofs.lemmas.List.{take_rest}
use Rattle.internet_checksum.proofs.Summing.{at_sum_more, at_sum_none, at_sum_one}
use Rattle.internet_checksum.proofs.sums.sum_words.Goals as goal

pub words-preserved : goal.words-preserved
words-preserved c =
    rw (take_rest c.words.rest.now 2)
    (at_sum_more c.words.sum (c.words.sum + c.from-sum.result) c.word.result c.args.bytes.now c.words.rest.now c.words.invariant c.words-test.true (ap (λ (n : ℕ). c.words.sum + n) c.from-sum.ensures)
    c.word.ensures (omega arith))

pub returns-then-rest-eq1-clause-value : goal.returns-then-rest-eq1-clause-value
returns-then-rest-eq1-clause-value c =
    at_sum_one c.words.sum (c.words.sum + c.from.result * 256) c.args.bytes.now c.words.rest.now c.words.invariant c.if-rest-eq1.true
    (ap (λ (n : ℕ). c.words.sum + n * 256) c.from.ensures)

pub returns-clause-value : goal.returns-clause-value
returns-clause-value c = at_sum_none c.words.sum c.args.bytes.now c.words.rest.now c.words.invariant (omega arith)
