use Rattle.std.proofs.Common.{◌≡◌, ◌+◌, ◌%◌, ◌<◌, length, get_or, sym, ap, ◌∙◌, subst, arith, rules}
use Rattle.std.specs.List.{sum_by}
use Rattle.acc_table.specs.Links.{none, one_in}
use Rattle.acc_table.proofs.Counting.{sum_within, one_in_le}
use Rattle.acc_table.proofs.Walking.{Counts, counts_first, counts_within, counts_more, counts_end, read}
use Rattle.acc_table.proofs.links.Links.chain_len.Goals as goal

pub loop-step-init : goal.loop-step-init
loop-step-init c = λ m os k.
    let bucket : c.bucket.result ≡ c.args.pid % m = c.bucket.ensures.bucket ∙ ap (λ n. c.args.pid % n) k.width in
    let first : get_or c.args.self.now.heads c.bucket.result none ≡ c.index-at.result.now = read c.self.inside.heads.items c.args.self.now.heads c.bucket.result c.index-at.result.now (ap (λ l. l.heads) c.self.view_is) c.bucket.ensures.within c.index-at.ensures in
    subst (λ h. Counts c.args.self.now.nexts h 0 (sum_by (one_in m (c.args.pid % m)) os)) (ap (λ b. get_or c.args.self.now.heads b none) (sym bucket) ∙ first) (counts_first m os c.args.self.now (c.args.pid % m) k)

pub returns-then-at : goal.returns-then-at
returns-then-at c = λ m os k.
    counts_end c.args.self.now.nexts c.loop-step.at c.loop-step.step (sum_by (one_in m (c.args.pid % m)) os) (c.loop-step.invariant m os k) (omega (arith, k.few, k.places)) c.if-at.true

pub index-at-requires-in-loop-step : goal.index-at-requires-in-loop-step
index-at-requires-in-loop-step c =
    let q = c.requires.linked in
    let h : c.loop-step.at < length c.args.self.now.nexts = counts_within c.args.self.now.nexts c.loop-step.at c.loop-step.step (sum_by (one_in q.0 (c.args.pid % q.0)) q.1) (c.loop-step.invariant q.0 q.1 q.2) c.if-at.false in
    search rules

pub loop-step-preserved : goal.loop-step-preserved
loop-step-preserved c = λ m os k.
    let h : c.loop-step.at < length c.args.self.now.nexts = counts_within c.args.self.now.nexts c.loop-step.at c.loop-step.step (sum_by (one_in m (c.args.pid % m)) os) (c.loop-step.invariant m os k) c.if-at.false in
    let next : get_or c.args.self.now.nexts c.loop-step.at none ≡ c.index-at-in-loop-step.result.now = read c.self.inside.nexts.items c.args.self.now.nexts c.loop-step.at c.index-at-in-loop-step.result.now (ap (λ l. l.nexts) c.self.view_is) h c.index-at-in-loop-step.ensures in
    subst (λ at. Counts c.args.self.now.nexts at (c.loop-step.step + 1) (sum_by (one_in m (c.args.pid % m)) os)) next
    (counts_more c.args.self.now.nexts c.loop-step.at c.loop-step.step (sum_by (one_in m (c.args.pid % m)) os) (c.loop-step.invariant m os k) c.if-at.false)

pub returns : goal.returns
returns c = λ m os k.
    let all = c.loop-step.invariant m os k in
    let nexts : length c.self.inside.nexts.items ≡ length c.args.self.now.nexts = ap (λ l. length l.nexts) c.self.view_is in
    omega (arith, all.sum, nexts, k.places, sum_within (one_in m (c.args.pid % m)) os (one_in_le m (c.args.pid % m)))
