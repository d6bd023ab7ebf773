use Rattle.std.proofs.Common.{◌∙◌, sym, ap, arith}
use Rattle.demo_capture.specs.Giving.{DemoLeft}
use Rattle.demo_capture.proofs.Counting.{gives_next, none_of}
use Rattle.demo_capture.proofs.records.DemoRecords.next.Goals as goal

pub returns-then-self-clause-end : goal.returns-then-self-clause-end
returns-then-self-clause-end c = sym (ap (λ (v : DemoLeft). v.records) c.self.view_is) ∙ none_of c.self.inside.count c.self.inside.given c.self.inside.last c.if-self.true

pub returns-clause-record : goal.returns-clause-record
returns-clause-record c =
    gives_next c.self.inside.count c.self.inside.given c.self.inside.last c.draw_four-behind.result.1 c.draw_four-behind.result.0 c.in_ok-record.record c.args.self.now c.self.view_is c.if-self.false (omega arith)
    c.in_ok-record.ensures.value c.in_ok-record.ensures.short c.draw_four-behind.ensures.draws c.draw_four-behind.ensures.behind
