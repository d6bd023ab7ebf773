use Rattle.std.proofs.Common.{◌∙◌, [], sym, arith}
use Rattle.patterns.specs.Occurrences.{occurs}
use Rattle.patterns.proofs.OneByOne.{first_passes, none_passes_at}
use Rattle.patterns.proofs.Sieving.{no_group, occurs_there}
use Rattle.patterns.proofs.set.first_of_groups.Goals as goal

pub returns-then-groups-eq0 : goal.returns-then-groups-eq0
returns-then-groups-eq0 c = sym (none_passes_at (λ pattern. occurs pattern c.args.payload.now) c.args.patterns.now [] (λ k within. no_group c.args.patterns.now c.args.payload.now c.args.groups k c.requires c.if-groups-eq0.true within))

pub returns-then-occurs : goal.returns-then-occurs
returns-then-occurs c =
    sym (first_passes (λ pattern. occurs pattern c.args.payload.now) c.args.patterns.now c.patterns.place [] c.patterns-test.true
    (occurs_there c.args.patterns.now c.args.payload.now c.patterns.place c.index-patterns-place.result c.patterns-test.true c.index-patterns-place.is (sym c.occurs.ensures ∙ c.if-occurs.true))
    c.patterns.invariant)

pub returns : goal.returns
returns c = sym (none_passes_at (λ pattern. occurs pattern c.args.payload.now) c.args.patterns.now [] (λ k within. c.patterns.invariant k (omega arith)))
