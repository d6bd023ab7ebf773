use Rattle.std.proofs.Common.{◌∙◌, sym, ap, arith}
use Rattle.piped_run.proofs.Framing.{noted_none, noted_one, noted_other, noted_all}
use Rattle.piped_run.proofs.frames.numbers_of.Goals as goal
use Rattle.piped_run.proofs.frames.numbers_of.Goals.{then-is_of+in_ok-push, else-is_of}

pub loop-item-init : goal.loop-item-init
loop-item-init c = noted_none c.args.chain c.args.items.now c.in_ok-numbers.numbers.items c.in_ok-numbers.ensures.items

pub loop-item-preserved : goal.loop-item-preserved
loop-item-preserved c =
    elim c.if-is_of.branch [
      | then-is_of+in_ok-push w ↦ noted_one c.args.chain c.args.items.now c.loop-item.numbers.items c.if-is_of.numbers.items c.loop-item.item-index c.item-item.result.number c.item-item.result c.loop-item.invariant c.loop-item-test.true c.item-item.is
          (sym c.is_of.ensures ∙ w.if-is_of.true) (ap (λ v. v.items) w.numbers-is ∙ w.in_ok-push.ensures.items)
      | else-is_of w ↦ noted_other c.args.chain c.args.items.now c.loop-item.numbers.items c.if-is_of.numbers.items c.loop-item.item-index c.item-item.result c.loop-item.invariant c.loop-item-test.true c.item-item.is
          (sym c.is_of.ensures ∙ w.if-is_of.false) (ap (λ v. v.items) w.numbers-is)
    ]

pub returns : goal.returns
returns c = λ unit. noted_all c.args.chain c.args.items.now c.loop-item.numbers.items c.loop-item.item-index c.loop-item.invariant (omega arith) unit
