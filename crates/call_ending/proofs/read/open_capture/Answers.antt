use Rattle.std.proofs.Common.{◌≤◌, ◌∙◌, refl, arith}
use Rattle.std.proofs.lemmas.Result.{IfErr-weaker, IfOk-weaker}
use Rattle.nfp_outside.specs.declared.slot.Slot.TheVariants.{Capture}
use Rattle.call_ending.proofs.Opening.{opens_by, refused_by_front}
use Rattle.call_ending.proofs.read.open_capture.Goals as goal

pub returns-in-Ok-fill-clause-ok : goal.returns-in-Ok-fill-clause-ok
returns-in-Ok-fill-clause-ok g c = IfOk-weaker c.open_by_format.result _ _
    (λ opened opens. opens_by c.in-Ok-fill.count c.fill.new.into _ c.args.name.now opened (g.D.Desk.slots c.args.desk.now Capture) (g.D.Desk.slots c.attach.new.self Capture) (g.D.Desk.slots c.fill.new.desk Capture) (g.D.Desk.slots c.open_by_format.new.desk Capture)
    c.in-Ok.ensures.ok.content c.fill.auto.into refl c.in-Ok-fill.ensures.ok (c.open_by_format.ensures.name ∙ c.in-Ok-fill.ensures.ok.same_name ∙ c.in-Ok.ensures.ok.named) opens)
    c.open_by_format.ensures.ok

pub returns-in-Ok-fill-clause-err : goal.returns-in-Ok-fill-clause-err
returns-in-Ok-fill-clause-err g c =
    let old = g.D.Desk.slots c.args.desk.now Capture in
    let mid = g.D.Desk.slots c.fill.new.desk Capture in
    let later : old.faults ≤ mid.faults = let a = c.attach.ensures.cause.later in let b = c.fill.ensures.cause.later in omega arith in
    IfErr-weaker c.open_by_format.result _ _
    (λ outcome refused. refused_by_front c.in-Ok-fill.count c.fill.new.into _ outcome old (g.D.Desk.slots c.attach.new.self Capture) mid (g.D.Desk.slots c.open_by_format.new.desk Capture)
    c.in-Ok.ensures.ok.content later c.fill.auto.into refl c.in-Ok-fill.ensures.ok refused)
    c.open_by_format.ensures.err
