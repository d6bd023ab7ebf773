use Rattle.std.proofs.Common.{◌<◌, arith, length, subst}
use Rattle.std.specs.Prelude.{IfSome, slice_index_or}
use Rattle.burst_walk.proofs.Queues.{none_taken, row_left}
use Rattle.burst_walk.proofs.weave.next_fate.Goals as goal

pub returns-clause-left : goal.returns-clause-left
returns-clause-left c = row_left (λ q. q.rest.items) c.args.rows.now c.args.class c.in_ok-rows.field-0 c.index-rows-branch.result c.next.new.self c.next.result c.in_ok-rows.was
    (subst (λ o. IfSome o (λ chain. chain < length c.args.rows.now)) c.in_ok-rows.was c.requires) c.next.ensures.items
    (λ none. let empty = none_taken c.next.result _ _ c.next.ensures.cases none in omega (arith, empty.0, (slice_index_or c.args.rows.now c.in_ok-rows.field-0 c.index-rows-branch.result).rest.ok.0))
