use Rattle.std.proofs.Common.{map, take, subst, ◌≡◌, ◌++◌}
use Rattle.trace_text.specs.Kept.{kept_acts}
use Rattle.trace_text.proofs.Keeping.{got, kept_more, nothing_kept, plus_one}
use Rattle.trace_text.proofs.acts.push_acts.Goals as goal

pub acts-init : goal.acts-init
acts-init c = nothing_kept c.args.text.now.items (map (λ d. d.now) c.args.order.now)

pub acts-preserved : goal.acts-preserved
acts-preserved c =
    subst (λ n. c.push_act_at.new.text.items ≡ c.args.text.now.items ++ kept_acts (map (λ d. d.now) c.args.order.now) (take n c.args.acts.now)) (plus_one c.acts.place)
    (kept_more c.args.text.now.items c.acts.text.items c.push_act_at.new.text.items (map (λ d. d.now) c.args.order.now) c.args.acts.now c.acts.place c.index-acts-place.result
    (got c.args.acts.now c.acts.place c.index-acts-place.result c.acts-test.true c.index-acts-place.is) c.acts.invariant c.in_ok-push_act_at.ensures)
