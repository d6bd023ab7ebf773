use Rattle.std.proofs.Common.{◌∙◌, ◌%◌, [], get_or, bit_or, subst, below_more}
use Rattle.patterns.specs.Sieving.{IsMarked}
use Rattle.patterns.proofs.Sieving.{marked_stays, marked_now, element_there}
use Rattle.patterns.proofs.sieve.mark_all.Goals as goal

pub patterns-preserved : goal.patterns-preserved
patterns-preserved c =
    let patterns = c.args.patterns.now in
    let more = c.mark_pattern-short.result in
    let new = c.mark_pattern-short.new.table in
    below_more (λ place. IsMarked c.args.width c.args.stride (bit_or c.patterns.short more) new (get_or patterns place []) (place % 64)) c.patterns.place
    (λ place below. marked_stays c.args.width c.args.stride c.patterns.short more c.patterns.table new (get_or patterns place []) (place % 64) c.mark_pattern-short.ensures.grows (c.patterns.invariant place below))
    (marked_now c.args.width c.args.stride c.patterns.short more new (get_or patterns c.patterns.place []) (c.patterns.place % 64)
    (subst (λ pattern. IsMarked c.args.width c.args.stride more new pattern (c.patterns.place % 64))
    (c.bytes.ensures ∙ element_there patterns c.patterns.place c.index-patterns-place.result c.patterns-test.true c.index-patterns-place.is) c.mark_pattern-short.ensures.marked))
