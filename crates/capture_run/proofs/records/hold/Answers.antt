use Rattle.std.proofs.Common.{◌≡◌, ◌∙◌, [], ap, rules}
use Rattle.std.specs.Prelude.{IfOk, IsTrue, OnOk, Result, Ok, Err}
use Rattle.std.proofs.lemmas.Bool.{false≢true}
use Rattle.classifier.specs.Classes.{class_of}
use Rattle.classifier.specs.Cutting.{closes}
use Rattle.capture_run.specs.Passing.{IsTold, PassBreaks, Passes, TakeBreaks, Takes}
use Rattle.capture_items.specs.Putting.{no_memory}
use Rattle.capture_run.specs.Streams.{held_in}
use Rattle.capture_items.specs.declared.given.Given.TheVariants.{Packet}
use Rattle.capture_items.specs.declared.fault.RunFault.TheVariants.{OutOfMemory}
use Rattle.capture_run.proofs.Gathering.{if_err}
use Rattle.capture_run.proofs.HandingOn.{handed_on}
use Rattle.capture_run.proofs.Turns.{more_classed, takes_broken, takes_closed, takes_open}
use Rattle.capture_run.proofs.records.hold.Goals as goal

pub run_held-requires-clause-classed : goal.run_held-requires-clause-classed
run_held-requires-clause-classed g c κs within = more_classed _ c.args.cutter.now c.args.packet c.class-class.result c.in-Ok-Some.burst.items c.requires.ready.classed c.requires.short (c.class-class.ensures ∙ ap (class_of c.args.passage.service.classes) c.bytes.ensures) (rw c.in-Ok-Some.field-0-is at c.in-Ok-Some.ensures.burst)

pub returns-in-Ok-None-clause-ok : goal.returns-in-Ok-None-clause-ok
returns-in-Ok-None-clause-ok g c = takes_open _ c.args.cutter.now c.add.new.self c.args.beside.now.items c.push.new.self.items c.args.packet c.args.own c.class-class.result c.args.passage _ c.requires.ready.classed c.requires.ready.told c.requires.short c.requires.ready.as_many
    (c.class-class.ensures ∙ ap (class_of c.args.passage.service.classes) c.bytes.ensures) (λ t. false≢true (rw c.in-Ok-None.field-0-is at (c.in-Ok-None.ensures.closed.1 t))) c.in-Ok-None.ensures.added c.in_ok-push.ensures.items

pub returns-in-Err-clause-err : goal.returns-in-Err-clause-err
returns-in-Err-clause-err g c = no_memory _ _ (g.D.Desk.slots c.args.desk.now)

with_three : {T E : Type 0} (r : Result T E) (P Q : T → Type 0) (N : Type 0) (R : T → Type 0) → ((x : T) → P x → Q x → N → R x) → IfOk r P → IfOk r Q → OnOk r N → IfOk r R
with_three (Ok x) P Q N R f p q n = f x p q n
with_three (Err e) P Q N R f p q n = tt

pub returns-in-Ok-Some-clause-ok : goal.returns-in-Ok-Some-clause-ok
returns-in-Ok-Some-clause-ok g c =
    let closed : IsTrue (closes c.args.cutter.now c.args.packet c.class-class.result) = (rw c.in-Ok-Some.field-0-is at c.in-Ok-Some.ensures.closed.0) (search rules) in
    with_three c.run_held.result (λ after. Passes g.W.Sink.spelled (held_in c.in-Ok-Some.burst.items c.push.new.self.items) c.args.passage after (g.D.Desk.slots c.args.desk.now) (g.D.Desk.slots c.run_held.new.desk)) (λ after. IsTold after) (c.run_held.new.beside.items ≡ [])
    (λ after. Takes g.W.Sink.spelled c.args.cutter.now c.args.beside.now.items c.add.new.self c.run_held.new.beside.items (Packet c.args.packet c.args.own) c.args.passage after (g.D.Desk.slots c.args.desk.now) (g.D.Desk.slots c.run_held.new.desk))
    (λ after passes told none. takes_closed g.W.Sink.spelled c.args.cutter.now c.add.new.self c.args.beside.now.items c.push.new.self.items c.run_held.new.beside.items c.args.packet c.args.own c.class-class.result c.in-Ok-Some.burst.items c.args.passage after
    (g.D.Desk.slots c.args.desk.now) (g.D.Desk.slots c.run_held.new.desk) closed c.in-Ok-Some.ensures.added (rw c.in-Ok-Some.field-0-is at c.in-Ok-Some.ensures.burst) c.in_ok-push.ensures.items none c.requires.ready.as_many told passes)
    c.run_held.ensures.ok c.run_held.ensures.told c.run_held.ensures.none_left

pub returns-in-Ok-Some-clause-err : goal.returns-in-Ok-Some-clause-err
returns-in-Ok-Some-clause-err g c =
    if_err c.run_held.result (PassBreaks g.W.Sink.spelled (held_in c.in-Ok-Some.burst.items c.push.new.self.items) c.args.passage (g.D.Desk.slots c.args.desk.now) (g.D.Desk.slots c.run_held.new.desk))
    (TakeBreaks g.W.Sink.spelled c.args.cutter.now c.args.beside.now.items (Packet c.args.packet c.args.own) c.args.passage (g.D.Desk.slots c.args.desk.now) (g.D.Desk.slots c.run_held.new.desk))
    (λ e broken. takes_broken g.W.Sink.spelled c.args.cutter.now c.args.beside.now.items c.push.new.self.items c.args.packet c.args.own c.class-class.result c.in-Ok-Some.burst.items c.args.passage (g.D.Desk.slots c.args.desk.now) (g.D.Desk.slots c.run_held.new.desk) e
    (rw c.in-Ok-Some.field-0-is at c.in-Ok-Some.ensures.burst) c.in_ok-push.ensures.items c.requires.ready.as_many broken) c.run_held.ensures.err

pub returns-in_err-push-clause-err : goal.returns-in_err-push-clause-err
returns-in_err-push-clause-err g c = handed_on c.from_residual.result OutOfMemory _ c.from_residual.ensures.1 (no_memory _ _ (g.D.Desk.slots c.args.desk.now))
