use Rattle.std.specs.Prelude.{◌≡◌, List, take, drop, map}
use Rattle.std.specs.Vec.Iter.{into_iter_items}
use Rattle.burst_law.specs.Bursts.{Message}
use Rattle.settled_notes.specs.Settling.{SameDrops}
use Rattle.piped_run.specs.Settling.{settled_own}
use Rattle.piped_run.proofs.back.end_branches.Given as goal

abbrev pub invariant-branches : goal.invariant-branches
invariant-branches g l =
    ((ends : List Message) → SameDrops l.fates ends → map (λ v. v.items) l.own.items ≡ map (settled_own g.F.Function.notes ends) (take l._branch (into_iter_items l.fn.works))) ×
    (into_iter_items l.works ≡ drop l._branch (into_iter_items l.fn.works))
