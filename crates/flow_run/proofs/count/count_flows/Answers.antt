use Rattle.std.proofs.Common.{◌≡◌, [], ap, sym, subst}
use Rattle.std.specs.Prelude.{Err, IfNone, IfSome, None, Some}
use Rattle.nfp_outside.specs.declared.slot.Slot.TheVariants as slots
use Rattle.pcap_io.specs.Capture.{IsHeadFault}
use Rattle.pcap_io.specs.Reader.{body_left}
use Rattle.flow_run.specs.Counting.{IsCountOf, IsCountedWith}
use Rattle.flow_run.proofs.Turns.{behind_head, drained, ended, if_none, when_counted, when_stopped}
use Rattle.flow_run.proofs.count.count_flows.Goals as goal

pub returns-in-Ok-None-clause-counted : goal.returns-in-Ok-None-clause-counted
returns-in-Ok-None-clause-counted g c =
    when_counted c.ended.result (IsCountedWith c.records.counting None) (λ counted. IfSome (body_left c.args.reader (g.D.Desk.slots c.args.desk.now slots.Capture)) (λ body. IsCountOf c.args.head.now.unit body counted))
    (λ counted is. ended c.args.head.now.unit c.records.counting None counted (body_left c.args.reader (g.D.Desk.slots c.args.desk.now slots.Capture)) (body_left c.records.reader (g.D.Desk.slots c.records.desk slots.Capture))
    c.records.invariant.whole (rw c.in-Ok-None.field-0-is at c.in-Ok-None.ensures.end).whole is)
    c.ended.ensures.counted

pub returns-in-Err-next-clause-counted : goal.returns-in-Err-next-clause-counted
returns-in-Err-next-clause-counted g c =
    when_stopped c.records.counting c.in-Err-next.refusal c.stopped.result (λ counted. IfSome (body_left c.args.reader (g.D.Desk.slots c.args.desk.now slots.Capture)) (λ body. IsCountOf c.args.head.now.unit body counted)) c.stopped.ensures.stops
    (λ fault counted of is. ended c.args.head.now.unit c.records.counting (Some fault) counted (body_left c.args.reader (g.D.Desk.slots c.args.desk.now slots.Capture)) (body_left c.records.reader (g.D.Desk.slots c.records.desk slots.Capture))
    c.records.invariant.whole (c.in-Err-next.ensures.refused fault (ap Err of)).whole is)

pub returns-in-Err-next-clause-kind : goal.returns-in-Err-next-clause-kind
returns-in-Err-next-clause-kind g c =
    when_stopped c.records.counting c.in-Err-next.refusal c.stopped.result (λ counted. IfSome counted.fault (λ fault. ¬ IsHeadFault fault)) c.stopped.ensures.stops
    (λ fault counted of is. subst (λ o. IfSome o (λ fault. ¬ IsHeadFault fault)) (sym is.same_fault) (behind_head c.records.reader.given fault (c.in-Err-next.ensures.refused fault (ap Err of)).kind))

pub returns-in-Ok-None-clause-drained : goal.returns-in-Ok-None-clause-drained
returns-in-Ok-None-clause-drained g c =
    when_counted c.ended.result (IsCountedWith c.records.counting None) (λ counted. IfNone counted.fault (IfSome (g.D.Desk.slots c.next.new.desk slots.Capture).bytes (λ bytes. bytes ≡ [])))
    (λ counted is. if_none counted.fault _ (drained c.records.reader c.next.new.self _ (g.D.Desk.slots c.next.new.desk slots.Capture) (rw c.in-Ok-None.field-0-is at c.in-Ok-None.ensures.end)))
    c.ended.ensures.counted

pub returns-in-Err-next-clause-drained : goal.returns-in-Err-next-clause-drained
returns-in-Err-next-clause-drained g c =
    when_stopped c.records.counting c.in-Err-next.refusal c.stopped.result (λ counted. IfNone counted.fault (IfSome (g.D.Desk.slots c.next.new.desk slots.Capture).bytes (λ bytes. bytes ≡ []))) c.stopped.ensures.stops
    (λ fault counted of is. subst (λ o. IfNone o (IfSome (g.D.Desk.slots c.next.new.desk slots.Capture).bytes (λ bytes. bytes ≡ []))) (sym is.same_fault) tt)
