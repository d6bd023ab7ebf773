use Rattle.std.proofs.Common.{◌+◌, ◌*◌, ◌||◌, not, ◌∙◌, ℕ, arith}
use Rattle.std.specs.Prelude.{◌==◌}
use Rattle.std.proofs.lemmas.List.{take_rest}
use Rattle.packet_fields.proofs.Overwriting.{cong2}
use Rattle.packet_fields.proofs.WordSums.{at_words_more, at_words_one, at_words_none, word_change}
use Rattle.packet_fields.proofs.sums.Change.with_bytes.Goals as goal

pub words-preserved : goal.words-preserved
words-preserved c =
    let r = c.words.old_rest.now in
    let s = c.words.new_rest.now in
    rw (take_rest r 2, take_rest s 2) (at_words_more c.args.self c.words.change c.with_word-change.result c.args.old.now c.args.new.now r s c.words.invariant c.words-test.true (omega (arith, c.words-test.true, c.words.invariant.same))
    (c.with_word-change.ensures.sum ∙ cong2 (λ (m n : ℕ). c.words.change.sum + word_change m n) c.word.ensures c.word-in-words.ensures)
    (c.with_word-change.ensures.is_some ∙ cong2 (λ (m n : ℕ). c.words.change.is_some || not (m == n)) c.word.ensures c.word-in-words.ensures)
    c.with_word-change.ensures.bound)

pub returns-then-old_rest-eq1-clause-sum : goal.returns-then-old_rest-eq1-clause-sum
returns-then-old_rest-eq1-clause-sum c =
    (at_words_one c.args.self c.words.change c.with_word.result c.args.old.now c.args.new.now c.words.old_rest.now c.words.new_rest.now c.words.invariant c.if-old_rest-eq1.true (omega (arith, c.if-old_rest-eq1.true, c.words.invariant.same))
    (c.with_word.ensures.sum ∙ cong2 (λ (m n : ℕ). c.words.change.sum + word_change (m * 256) (n * 256)) c.from.ensures c.from-then-old_rest-eq1.ensures)
    (c.with_word.ensures.is_some ∙ cong2 (λ (m n : ℕ). c.words.change.is_some || not (m * 256 == n * 256)) c.from.ensures c.from-then-old_rest-eq1.ensures)).sum_is

pub returns-then-old_rest-eq1-clause-is_some : goal.returns-then-old_rest-eq1-clause-is_some
returns-then-old_rest-eq1-clause-is_some c =
    (at_words_one c.args.self c.words.change c.with_word.result c.args.old.now c.args.new.now c.words.old_rest.now c.words.new_rest.now c.words.invariant c.if-old_rest-eq1.true (omega (arith, c.if-old_rest-eq1.true, c.words.invariant.same))
    (c.with_word.ensures.sum ∙ cong2 (λ (m n : ℕ). c.words.change.sum + word_change (m * 256) (n * 256)) c.from.ensures c.from-then-old_rest-eq1.ensures)
    (c.with_word.ensures.is_some ∙ cong2 (λ (m n : ℕ). c.words.change.is_some || not (m * 256 == n * 256)) c.from.ensures c.from-then-old_rest-eq1.ensures)).changed

pub returns-clause-sum : goal.returns-clause-sum
returns-clause-sum c =
    (at_words_none c.args.self c.words.change c.args.old.now c.args.new.now c.words.old_rest.now c.words.new_rest.now c.words.invariant (omega arith)).sum_is

pub returns-clause-is_some : goal.returns-clause-is_some
returns-clause-is_some c =
    (at_words_none c.args.self c.words.change c.args.old.now c.args.new.now c.words.old_rest.now c.words.new_rest.now c.words.invariant (omega arith)).changed
