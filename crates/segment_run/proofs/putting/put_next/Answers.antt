use Rattle.std.proofs.Common.{ap}
use Rattle.segment_run.proofs.Rejoining.{put_next_gone, put_next_out}
use Rattle.segment_run.proofs.putting.put_next.Goals.{in-Out, in-Gone}
use Rattle.segment_run.proofs.putting.put_next.Goals as goal

pub returns-clause-put : goal.returns-clause-put
returns-clause-put c = λ rest. elim c.match-fate.branch [
  | in-Out w ↦ put_next_out c.args.before c.args.fate _ rest c.args.later.now.rest.items w.next_moved.new.later.rest.items c.match-fate.later.rest.items w.next_moved.result c.match-fate.result
      w.in-Out.is w.next_moved.ensures.next w.next_moved.ensures.ends (ap (λ l. l.rest.items) w.later-is) w.result-is
  | in-Gone w ↦ put_next_gone c.args.before c.args.fate _ rest c.args.later.now.rest.items c.match-fate.later.rest.items c.match-fate.result w.in-Gone.is (ap (λ l. l.rest.items) w.later-is) w.result-is
]
