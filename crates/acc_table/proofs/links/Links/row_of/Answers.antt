use Rattle.std.proofs.Common.{◌≡◌, ◌+◌, ◌%◌, ◌<◌, length, get_or, Some, None, sym, ap, ◌∙◌, subst, arith, rules}
use Rattle.std.proofs.lemmas.Bool.{false≢true}
use Rattle.std.proofs.lemmas.List.{get_or_read, length-map}
use Rattle.acc_table.specs.Arrivals.{heads_for}
use Rattle.acc_table.specs.Links.{none, owners}
use Rattle.acc_table.proofs.Walking.{Seeks, seeks_first, seeks_within, seeks_more, absent_at_end, absent_after, owner_at, read}
use Rattle.acc_table.proofs.links.Links.row_of.Goals as goal

pub loop-step-init : goal.loop-step-init
loop-step-init g c =
    let m = heads_for (length c.args.rows.now) in
    let bucket : c.bucket.result ≡ c.args.pid % m = c.bucket.ensures.bucket ∙ ap (λ n. c.args.pid % n) c.requires.width in
    let first : get_or c.args.self.now.heads c.bucket.result none ≡ c.index-at.result.now = read c.self.inside.heads.items c.args.self.now.heads c.bucket.result c.index-at.result.now (ap (λ l. l.heads) c.self.view_is) c.bucket.ensures.within c.index-at.ensures in
    subst (λ h. Seeks (owners c.args.rows.now) c.args.self.now.nexts c.args.pid h 0) first (seeks_first m (owners c.args.rows.now) c.args.self.now c.args.pid c.bucket.result c.requires bucket)

pub returns-then-at-clause-absent : goal.returns-then-at-clause-absent
returns-then-at-clause-absent g c _ = absent_at_end c.args.rows.now c.args.self.now.nexts c.args.pid c.loop-step.at c.loop-step._step c.loop-step.invariant c.if-at.true

pub bounds-rows-place : goal.bounds-rows-place
bounds-rows-place g c = omega (arith, seeks_within (owners c.args.rows.now) c.args.self.now.nexts c.args.pid c.loop-step.at c.loop-step._step c.loop-step.invariant c.if-at.false, length-map c.args.rows.now (λ r. r.pid))

pub returns-then-is_of-clause-within : goal.returns-then-is_of-clause-within
returns-then-is_of-clause-within g c = omega (arith, seeks_within (owners c.args.rows.now) c.args.self.now.nexts c.args.pid c.loop-step.at c.loop-step._step c.loop-step.invariant c.if-at.false, length-map c.args.rows.now (λ r. r.pid))

pub returns-then-is_of-clause-found : goal.returns-then-is_of-clause-found
returns-then-is_of-clause-found g c d =
    let h : c.loop-step.at < length c.args.rows.now = omega (arith, seeks_within (owners c.args.rows.now) c.args.self.now.nexts c.args.pid c.loop-step.at c.loop-step._step c.loop-step.invariant c.if-at.false, length-map c.args.rows.now (λ r. r.pid)) in
    let own : c.index-rows-place.result.pid ≡ Some c.args.pid = c.is_of.ensures.0 c.if-is_of.true in
    ap (λ r. r.pid) (sym (get_or_read c.args.rows.now c.loop-step.at c.index-rows-place.result h c.index-rows-place.is d)) ∙ own

pub index-at-requires-in-loop-step : goal.index-at-requires-in-loop-step
index-at-requires-in-loop-step g c =
    let s = seeks_within (owners c.args.rows.now) c.args.self.now.nexts c.args.pid c.loop-step.at c.loop-step._step c.loop-step.invariant c.if-at.false in
    let h : c.loop-step.at < length c.args.self.now.nexts = omega (arith, s, c.requires.places) in
    search rules

pub loop-step-preserved : goal.loop-step-preserved
loop-step-preserved g c =
    let s = seeks_within (owners c.args.rows.now) c.args.self.now.nexts c.args.pid c.loop-step.at c.loop-step._step c.loop-step.invariant c.if-at.false in
    let h : c.loop-step.at < length c.args.self.now.nexts = omega (arith, s, c.requires.places) in
    let r : c.loop-step.at < length c.args.rows.now = omega (arith, s, length-map c.args.rows.now (λ r. r.pid)) in
    let next : get_or c.args.self.now.nexts c.loop-step.at none ≡ c.index-at-in-loop-step.result.now = read c.self.inside.nexts.items c.args.self.now.nexts c.loop-step.at c.index-at-in-loop-step.result.now (ap (λ l. l.nexts) c.self.view_is) h c.index-at-in-loop-step.ensures in
    let row : get_or (owners c.args.rows.now) c.loop-step.at None ≡ c.index-rows-place.result.pid = owner_at c.args.rows.now c.loop-step.at c.index-rows-place.result r ∙ ap (λ x. x.pid) (sym c.index-rows-place.is) in
    subst (λ at. Seeks (owners c.args.rows.now) c.args.self.now.nexts c.args.pid at (c.loop-step._step + 1)) next
    (seeks_more (owners c.args.rows.now) c.args.self.now.nexts c.args.pid c.loop-step.at c.loop-step._step c.loop-step.invariant c.if-at.false (λ e. false≢true (sym c.if-is_of.false ∙ c.is_of.ensures.1 (sym row ∙ e))))

pub returns-clause-absent : goal.returns-clause-absent
returns-clause-absent g c _ = absent_after c.args.rows.now c.args.self.now.nexts c.args.pid c.loop-step.at c.loop-step._step c.loop-step.invariant c.loop-step-test.false
