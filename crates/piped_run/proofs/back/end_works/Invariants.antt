use Rattle.std.proofs.Common.{map}
use Rattle.std.specs.Vec.Iter.{into_iter_items}
use Rattle.piped_run.proofs.Ending.{HasGiven}
use Rattle.piped_run.proofs.back.end_works.Given as goal

abbrev pub invariant-stages : goal.invariant-stages
invariant-stages g l = HasGiven g.F.Function.notes l.fates (λ own. map (λ v. v.items) own.items) l.stages l.fn.works.items (into_iter_items l.rest) l.owned.items l.stage-index
