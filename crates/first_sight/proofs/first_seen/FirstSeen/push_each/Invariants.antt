use Rattle.first_sight.proofs.Telling.{ArePushed}
use Rattle.first_sight.proofs.first_seen.FirstSeen.push_each.Given as goal

abbrev pub invariant-entries : goal.invariant-entries
invariant-entries g l = ArePushed (g.T.EntryLines.line l.teller) l.fn.out.items l.out.items l.place l.key-iterator l.self
