use Rattle.std.proofs.Common.{ap, arith}
use Rattle.plain_chains.proofs.UnderWay.{part_goes_on, part_stops, walk_begins, walk_over}
use Rattle.plain_chains.proofs.walking.walk_parts.Goals as goal

pub parts-init : goal.parts-init
parts-init g c = walk_begins _ _ _ _ _ _ _ c.requires

pub parts-preserved : goal.parts-preserved
parts-preserved g c =
    part_goes_on _ _ _ _ _ _ _ _ _ _ _ _ _ _ c.index-parts-index.result c.index-parts-index-in-parts.result _ _ _ _ _ c.parts.invariant (omega arith) c.replace-part.ensures.value c.count_of-count.ensures c.in-Out.is c.in_ok-part.ensures

pub returns-in-Gone-clause-fate : goal.returns-in-Gone-clause-fate
returns-in-Gone-clause-fate g c =
    ap (λ w. w.fate) (part_stops _ _ _ _ _ _ _ _ _ _ _ _ _ _ c.index-parts-index-in-parts.result _ _ c.replace-part.new.dest _ c.parts.invariant (omega arith) c.replace-part.ensures.value c.in-Gone.is c.in_ok-part.ensures)

pub returns-in-Gone-clause-pieces : goal.returns-in-Gone-clause-pieces
returns-in-Gone-clause-pieces g c =
    ap (λ w. w.pieces) (part_stops _ _ _ _ _ _ _ _ _ _ _ _ _ _ c.index-parts-index-in-parts.result _ _ c.replace-part.new.dest _ c.parts.invariant (omega arith) c.replace-part.ensures.value c.in-Gone.is c.in_ok-part.ensures)

pub returns-in-Gone-clause-acts : goal.returns-in-Gone-clause-acts
returns-in-Gone-clause-acts g c =
    ap (λ w. w.trace) (part_stops _ _ _ _ _ _ _ _ _ _ _ _ _ _ c.index-parts-index-in-parts.result _ _ c.replace-part.new.dest _ c.parts.invariant (omega arith) c.replace-part.ensures.value c.in-Gone.is c.in_ok-part.ensures)

pub returns-clause-fate : goal.returns-clause-fate
returns-clause-fate g c = ap (λ w. w.fate) (walk_over _ _ _ _ _ _ _ _ _ _ _ _ c.parts.invariant (omega (arith, c.parts-test.false, c.parts.auto.parts)))

pub returns-clause-pieces : goal.returns-clause-pieces
returns-clause-pieces g c = ap (λ w. w.pieces) (walk_over _ _ _ _ _ _ _ _ _ _ _ _ c.parts.invariant (omega (arith, c.parts-test.false, c.parts.auto.parts)))

pub returns-clause-acts : goal.returns-clause-acts
returns-clause-acts g c = ap (λ w. w.trace) (walk_over _ _ _ _ _ _ _ _ _ _ _ _ c.parts.invariant (omega (arith, c.parts-test.false, c.parts.auto.parts)))
