use Rattle.std.proofs.Common.{◌∙◌, ◌++◌, [], ap, sym, arith}
use Rattle.std.specs.Prelude.{slice_index_or}
use Rattle.first_sight.specs.Lines.{rows_by}
use Rattle.first_sight.proofs.Telling.{row_at, row_pushed, rows_counted}
use Rattle.first_sight.proofs.first_seen.FirstSeen.push_line.Goals as goal

pub entry-requires : goal.entry-requires
entry-requires g c = let many = rows_counted (g.T.EntryLines.line c.args.teller.now) c.args.self.now in let within = c.requires.inside in record { inside = omega arith }

pub returns-clause-line : goal.returns-clause-line
returns-clause-line g c =
    row_pushed c.extend_from_slice.result c.args.out.now.items c.extend_from_slice.new.self.items c.deref.result.now (slice_index_or (rows_by (g.T.EntryLines.line c.args.teller.now) c.args.self.now) c.args.place [])
    c.extend_from_slice.ensures.items
    (c.deref.ensures.value ∙ c.in_ok-push_entry.ensures ∙ ap (λ l. l ++ g.T.EntryLines.line c.args.teller.now c.args.place (c.entry.result.0.now, c.entry.result.1.now)) c.new-line.ensures.items
    ∙ sym (row_at (g.T.EntryLines.line c.args.teller.now) c.args.self.now c.args.place (c.entry.result.0.now, c.entry.result.1.now) c.entry.ensures.entry))
