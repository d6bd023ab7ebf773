use Rattle.std.proofs.Common.{◌≡◌, ◌+◌, ◌<◌, length, get_or, sym, ap, ◌∙◌, subst, rules}
use Rattle.acc_table.specs.Links.{none}
use Rattle.acc_table.proofs.Walking.{Nears, nears_first, nears_within, nears_more, read}
use Rattle.acc_table.proofs.links.Links.before.Goals as goal

pub loop-step-init : goal.loop-step-init
loop-step-init c =
    let first : get_or c.args.self.now.heads c.args.bucket none ≡ c.index.result.now = read c.self.inside.heads.items c.args.self.now.heads c.args.bucket c.index.result.now (ap (λ l. l.heads) c.self.view_is) c.requires.bucket c.index.ensures in
    subst (λ h. Nears c.args.self.now c.args.bucket c.args.place h 0) first (nears_first c.args.self.now c.args.bucket c.args.place c.requires.is_in (λ e. c.if-at-place.false (sym first ∙ e)))

pub index-requires-in-loop-step : goal.index-requires-in-loop-step
index-requires-in-loop-step c =
    let h : c.loop-step.at < length c.args.self.now.nexts = nears_within c.args.self.now c.args.bucket c.args.place c.loop-step.at c.loop-step._step c.loop-step.invariant in
    search rules

pub returns-then-next-place : goal.returns-then-next-place
returns-then-next-place c =
    let h : c.loop-step.at < length c.args.self.now.nexts = nears_within c.args.self.now c.args.bucket c.args.place c.loop-step.at c.loop-step._step c.loop-step.invariant in
    let next : get_or c.args.self.now.nexts c.loop-step.at none ≡ c.index-in-loop-step.result.now = read c.self.inside.nexts.items c.args.self.now.nexts c.loop-step.at c.index-in-loop-step.result.now (ap (λ l. l.nexts) c.self.view_is) h c.index-in-loop-step.ensures in
    (h, next ∙ c.if-next-place.true, c.loop-step.invariant.passed)

pub loop-step-preserved : goal.loop-step-preserved
loop-step-preserved c =
    let h : c.loop-step.at < length c.args.self.now.nexts = nears_within c.args.self.now c.args.bucket c.args.place c.loop-step.at c.loop-step._step c.loop-step.invariant in
    let next : get_or c.args.self.now.nexts c.loop-step.at none ≡ c.index-in-loop-step.result.now = read c.self.inside.nexts.items c.args.self.now.nexts c.loop-step.at c.index-in-loop-step.result.now (ap (λ l. l.nexts) c.self.view_is) h c.index-in-loop-step.ensures in
    subst (λ at. Nears c.args.self.now c.args.bucket c.args.place at (c.loop-step._step + 1)) next
    (nears_more c.args.self.now c.args.bucket c.args.place c.loop-step.at c.loop-step._step c.loop-step.invariant (λ e. c.if-next-place.false (sym next ∙ e)))
