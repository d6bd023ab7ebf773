use Rattle.std.proofs.Common.{◌≡◌, [], ◌∷◌, arith, sym, subst}
use Rattle.std.specs.Prelude.{IsSome}
use Rattle.capture_run.specs.Emitted.{emitted}
use Rattle.capture_report.specs.BurstWalkProofs.{ended}
use Rattle.capture_items.specs.Slots.{Puts, Breaks}
use Rattle.capture_items.specs.Streams.{spelled_with}
use Rattle.capture_run.proofs.Emitting.{emitting_begins, emitting_breaks, emitting_ends, emitting_goes_on}
use Rattle.capture_run.proofs.emit.put_emitted.Goals as goal

pub fates-init : goal.fates-init
fates-init g c = emitting_begins _ _ _ _ _ _ c.into_iter-fate-iterator.ensures.into_iter_gives.0 c.requires.as_many c.requires.beside c.requires.writable

pub put_fate-requires-clause-out : goal.put_fate-requires-clause-out
put_fate-requires-clause-out g c = subst IsSome (sym c.fates.invariant.puts.in_out.same_name) c.requires.out

pub fates-preserved : goal.fates-preserved
fates-preserved g c =
    let next : c.fates.fate-iterator.rest.items ≡ c.in-Some.fate ∷ c.next.new.self.rest.items = c.in-Some.ensures.steps.0 in
    emitting_goes_on _ _ _ _ _ _ _ _ _ c.index-items-index.result c.index-beside-index.result c.in-Some.fate _ (g.D.Desk.slots c.fates.desk) _ c.fates.invariant next c.index-items-index.is c.index-beside-index.is
    (subst (λ x. Puts (emitted (spelled_with (g.W.Sink.spelled c.fates.writer) c.index-beside-index.result) x.packet (ended x.packet c.in-Some.fate)) [] (g.D.Desk.slots c.fates.desk) (g.D.Desk.slots c.put_fate.new.desk)) (sym c.index-items-index.is) c.in-Ok.ensures.ok) c.put_fate.ensures.spelling c.put_fate.ensures.others

pub returns-in-Err-clause-err : goal.returns-in-Err-clause-err
returns-in-Err-clause-err g c =
    let next : c.fates.fate-iterator.rest.items ≡ c.in-Some.fate ∷ c.next.new.self.rest.items = c.in-Some.ensures.steps.0 in
    emitting_breaks _ _ _ _ _ _ _ _ c.index-items-index.result c.index-beside-index.result c.in-Some.fate _ (g.D.Desk.slots c.fates.desk) _ _ c.fates.invariant next c.index-items-index.is c.index-beside-index.is
    (subst (λ x. Breaks (emitted (spelled_with (g.W.Sink.spelled c.fates.writer) c.index-beside-index.result) x.packet (ended x.packet c.in-Some.fate)) [] (g.D.Desk.slots c.fates.desk) (g.D.Desk.slots c.put_fate.new.desk) c.in-Err.fault) (sym c.index-items-index.is) c.in-Err.ensures.err)

pub returns-clause-ok : goal.returns-clause-ok
returns-clause-ok g c = emitting_ends _ _ _ _ _ c.fates.fate-iterator.rest.items _ (g.D.Desk.slots c.args.desk.now) _ c.fates.invariant (omega (arith, c.fates.fate-iterator.rest.ok.0, c.in-None.ensures.steps.0))
