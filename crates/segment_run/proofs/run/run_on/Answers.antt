use Rattle.std.proofs.Common.{◌∷◌, arith}
use Rattle.graph_run.specs.Packets.{packets_taken}
use Rattle.segment_run.specs.Segments.{piece_of, pieces_of}
use Rattle.segment_run.proofs.OnTheWay.{way_counts}
use Rattle.segment_run.proofs.Through.{first_refused, first_within, next_few, next_refused, next_within, on_err, through_begins, through_ends, through_goes_on}
use Rattle.segment_run.proofs.run.run_on.Goals as goal

pub returns-in_err-first-clause-refused : goal.returns-in_err-first-clause-refused
returns-in_err-first-clause-refused g c = on_err _ _ (first_refused g.F.Function.behaviour (packets_taken c.args.unit c.args.chain c.args.burst.now.items) (piece_of c.args.first) (pieces_of c.args.left.rest.items) c.args.tally.now c.lead.new.tally c.in_err-first.ensures.refused)

pub returns-in_err-push-clause-refused : goal.returns-in_err-push-clause-refused
returns-in_err-push-clause-refused g c = on_err _ _ (first_within g.F.Function.behaviour (packets_taken c.args.unit c.args.chain c.args.burst.now.items) (piece_of c.args.first) (pieces_of c.args.left.rest.items) _ c.args.tally.now c.lead.new.tally _ c.in_ok-first.ensures.goes)

pub pieces-init : goal.pieces-init
pieces-init g c = through_begins g.F.Function.behaviour (packets_taken c.args.unit c.args.chain c.args.burst.now.items) c.args.first c.in_ok-first.first c.args.left.rest.items c.into_iter-piece-iterator.result.rest.items c.new-done.result.items c.push.new.self.items
    c.args.tally.now c.lead.new.tally c.in_ok-first.fates.items c.count_of-before.result (λ i. (c.into_iter-piece-iterator.ensures.into_iter_gives i).rest.items) c.new-done.ensures.items c.in_ok-push.ensures.items c.count_of-before.ensures c.in_ok-first.ensures.goes

pub lead_on-requires-clause-few_before : goal.lead_on-requires-clause-few_before
lead_on-requires-clause-few_before g c κs within =
    let few = next_few g.F.Function.behaviour _ _ c.pieces.piece-iterator.rest.items _ _ c.in-Some.piece _ _ _ c.pieces.before c.pieces.invariant c.in-Some.ensures.steps.0 c.requires.few_functions in
    omega (arith, few)

pub lead_on-requires-clause-one_each : goal.lead_on-requires-clause-one_each
lead_on-requires-clause-one_each g c κs within = way_counts g.F.Function.behaviour _ _ _ _ _ _ c.pieces.ended.items c.pieces.before c.pieces.invariant

pub returns-in_err-piece-clause-refused : goal.returns-in_err-piece-clause-refused
returns-in_err-piece-clause-refused g c = on_err _ _ (next_refused g.F.Function.behaviour _ _ c.pieces.piece-iterator.rest.items _ _ c.in-Some.piece _ _ c.lead_on.new.tally _ c.pieces.before c.pieces.invariant c.in-Some.ensures.steps.0 c.in_err-piece.ensures.refused)

pub returns-in_err-push-2-clause-refused : goal.returns-in_err-push-2-clause-refused
returns-in_err-push-2-clause-refused g c = on_err _ _ (next_within g.F.Function.behaviour _ _ c.pieces.piece-iterator.rest.items _ _ c.in-Some.piece c.in_ok-piece.piece _ _ c.lead_on.new.tally _ c.in_ok-piece.fates.items c.pieces.before c.pieces.invariant c.in-Some.ensures.steps.0 c.in_ok-piece.ensures.goes)

pub overflow_add-before : goal.overflow_add-before
overflow_add-before g c =
    let few = next_few g.F.Function.behaviour _ _ c.pieces.piece-iterator.rest.items _ _ c.in-Some.piece _ _ _ c.pieces.before c.pieces.invariant c.in-Some.ensures.steps.0 c.requires.few_functions in
    let count = c.count_of-count.ensures in
    omega (arith, few, count)

pub pieces-preserved : goal.pieces-preserved
pieces-preserved g c = through_goes_on g.F.Function.behaviour (packets_taken c.args.unit c.args.chain c.args.burst.now.items) (piece_of c.args.first ∷ pieces_of c.args.left.rest.items) c.pieces.piece-iterator.rest.items c.next.new.self.rest.items c.pieces.done.items c.push-in-pieces.new.self.items
    c.in-Some.piece c.in_ok-piece.piece c.args.tally.now c.pieces.tally c.lead_on.new.tally c.pieces.ended.items c.in_ok-piece.fates.items c.pieces.before c.count_of-count.result c.pieces.invariant c.in-Some.ensures.steps.0 c.count_of-count.ensures c.in_ok-push-2.ensures.items c.in_ok-piece.ensures.goes

pub returns-clause-goes : goal.returns-clause-goes
returns-clause-goes g c = through_ends g.F.Function.behaviour _ _ c.pieces.piece-iterator.rest.items _ _ _ _ c.pieces.before c.pieces.invariant (omega (arith, c.pieces.piece-iterator.rest.ok.0, c.in-None.ensures.steps.0))
