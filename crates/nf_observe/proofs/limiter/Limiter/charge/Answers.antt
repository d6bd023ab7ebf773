use Rattle.std.proofs.Common.{sym, true≢false}
use Rattle.nf_observe.proofs.NoNewKey.{no_new_source}
use Rattle.nf_observe.proofs.limiter.Limiter.charge.Goals as goal

pub returns-in_err-note-clause-known : goal.returns-in_err-note-clause-known
returns-in_err-note-clause-known c = λ as_many.
    absurd (true≢false (sym (c.in_err-note.ensures.known (no_new_source c.args.self.now c.args.source c.args.bytes c.args.time as_many))))
