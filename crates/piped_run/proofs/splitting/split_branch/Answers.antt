use Rattle.std.proofs.Common.{◌∙◌, ◌+◌, List, ap, sym, subst, arith}
use Rattle.std.specs.Prelude.{Option}
use Rattle.piped_run.proofs.Taking.{Took, took_none, next_within, next_full, took_more, took_all}
use Rattle.piped_run.proofs.splitting.split_branch.Goals as goal
use Rattle.piped_run.proofs.splitting.split_branch.Goals.{in-Some+in_ok-push, in_default}

pub loop-position-init : goal.loop-position-init
loop-position-init g c = took_none c.args.places.now c.args.positions.now c.in_ok-own.own.items c.in_ok-own.ensures.items

pub take_at-requires : goal.take_at-requires
take_at-requires g c =
    let w = next_within c.args.places.now c.loop-position.places c.args.positions.now c.loop-position.own.items c.loop-position.position-index c.loop-position.invariant c.requires.there c.loop-position-test.true in
    record { first = w.0; last = w.1 }

pub loop-position-preserved : goal.loop-position-preserved
loop-position-preserved g c =
    elim c.match-take_at.branch [
      | in-Some+in_ok-push w ↦ subst (λ (p : List (Option g.row.F.Denot)). Took c.args.places.now p c.args.positions.now c.match-take_at.own.items (c.loop-position.position-index + 1)) (sym c.take_at.ensures.left)
          (took_more c.args.places.now c.loop-position.places c.args.positions.now c.loop-position.own.items c.match-take_at.own.items c.loop-position.position-index w.in-Some.function c.loop-position.invariant c.loop-position-test.true
          (sym c.take_at.ensures.taken ∙ w.in-Some.is) (ap (λ v. v.items) w.own-is ∙ w.in_ok-push.ensures.items))
      | in_default w ↦ absurd (next_full c.args.places.now c.loop-position.places c.args.positions.now c.loop-position.own.items c.loop-position.position-index c.loop-position.invariant c.requires.there c.loop-position-test.true (sym c.take_at.ensures.taken ∙ w.in_default.is))
    ]

pub returns-clause-own : goal.returns-clause-own
returns-clause-own g c = λ functions later there. (took_all c.args.places.now c.loop-position.places c.args.positions.now c.loop-position.own.items c.loop-position.position-index functions later c.loop-position.invariant (omega arith) there).0

pub returns-clause-left : goal.returns-clause-left
returns-clause-left g c = λ functions later there. (took_all c.args.places.now c.loop-position.places c.args.positions.now c.loop-position.own.items c.loop-position.position-index functions later c.loop-position.invariant (omega arith) there).1
