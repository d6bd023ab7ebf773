use Rattle.capture_run.proofs.Emitting.{IsEmitting}
use Rattle.capture_run.proofs.emit.put_emitted.Given as goal

abbrev pub invariant-fates : goal.invariant-fates
invariant-fates g l = IsEmitting (g.W.Sink.spelled l.fn.writer) (g.W.Sink.spelled l.writer) l.items l.beside l.fn.fates.items l.fate-iterator.rest.items l.index (g.D.Desk.slots l.fn.desk) (g.D.Desk.slots l.desk)
