use Rattle.std.proofs.Common.{map}
use Rattle.std.specs.Vec.Iter.{into_iter_items}
use Rattle.piped_run.proofs.PutBack.{PutAll}
use Rattle.piped_run.proofs.returning.put_together.Given as goal

abbrev pub invariant-loop-own : goal.invariant-loop-own
invariant-loop-own g l =
    (goal.iterator-loop-own g).can_next l.own-iterator ×
    (goal.iterator-loop-own g).is_finite l.own-iterator ×
    PutAll (λ own. map (λ v. v.items) own.items) l.places.items l.stages l.count l.fn.owned.items (into_iter_items l.own-iterator) l.index
