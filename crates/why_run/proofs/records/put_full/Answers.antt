use Rattle.why_run.proofs.Gathering.{gathers_none}
use Rattle.why_run.proofs.records.put_full.Goals as goal

pub returns-then-len-lt-FULL-clause-ok : goal.returns-then-len-lt-FULL-clause-ok
returns-then-len-lt-FULL-clause-ok g c = gathers_none c.args.text.now.items (g.D.Desk.slots c.args.desk.now)
