use Rattle.std.specs.Vec.Iter.{into_iter_items}
use Rattle.piped_run.proofs.PutBack.{Put}
use Rattle.piped_run.proofs.returning.put_branch.Given as goal

abbrev pub invariant-loop-function : goal.invariant-loop-function
invariant-loop-function g l =
    (goal.iterator-loop-function g).can_next l.function-iterator ×
    (goal.iterator-loop-function g).is_finite l.function-iterator ×
    Put l.fn.places l.places l.positions l.fn.own.items (into_iter_items l.function-iterator) l.index
