use Rattle.std.proofs.Common.{◌≡◌, ◌∙◌, true, false, sym}
use Rattle.policy_check.proofs.Cycling.{GoesBack-start, GoesBack-some, GoesBack-fewer, GoesBack-turn, GoesBack-end}
use Rattle.policy_check.proofs.Inside.{inside}
use Rattle.policy_check.proofs.cycle.cycle_back.Goals as goal

pub back-init : goal.back-init
back-init c = rw c.new-trail.ensures.items (GoesBack-start _ _ _ c.requires.stuck c.requires.start)

pub unwrap-at-requires : goal.unwrap-at-requires
unwrap-at-requires c =
    let new : inside c.back.at c.back.trail.items ≡ false = sym (rw c.deref.ensures.value at c.back-test.ensures.value) in
    rw c.predecessor.ensures (GoesBack-some _ _ _ _ _ c.back.invariant new)

pub back-smaller : goal.back-smaller
back-smaller c = rw c.in_ok-push.ensures.items (GoesBack-fewer _ _ _ _ _ c.back.invariant)

pub back-preserved : goal.back-preserved
back-preserved c =
    let new : inside c.back.at c.back.trail.items ≡ false = sym (rw c.deref.ensures.value at c.back-test.ensures.value) in
    rw c.in_ok-push.ensures.items (GoesBack-turn _ _ _ _ _ _ c.back.invariant new (sym c.predecessor.ensures ∙ c.unwrap-at.ensures))

pub returns : goal.returns
returns c =
    let round : inside c.back.at c.back.trail.items ≡ true = sym (rw c.deref.ensures.value at c.back-test.ensures.value) in
    rw (← GoesBack-end _ _ _ _ _ c.back.invariant round) (rw c.deref-2.ensures.value at c.up_to.ensures)
