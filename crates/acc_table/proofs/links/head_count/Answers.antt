use Rattle.std.proofs.Common.{◌≡◌, ◌+◌, ◌-◌, ◌*◌, refl, sym, ap, ◌∙◌, arith}
use Rattle.acc_table.specs.Arrivals.{doubled_to}
use Rattle.acc_table.proofs.Doubling.{doubled_first, doubled_last, doubled_next, doubled_stop}
use Rattle.acc_table.proofs.links.head_count.Goals as goal

pub loop-doubled-init : goal.loop-doubled-init
loop-doubled-init c = (doubled_first c.args.entries, omega arith)

pub returns-then-entries-heads-clause-heads : goal.returns-then-entries-heads-clause-heads
returns-then-entries-heads-clause-heads c = sym (doubled_stop (16 - c.loop-doubled._doubled) c.loop-doubled.heads c.args.entries c.if-entries-heads.true) ∙ c.loop-doubled.invariant.0

pub loop-doubled-preserved : goal.loop-doubled-preserved
loop-doubled-preserved c = (
  sym (doubled_next (16 - c.loop-doubled._doubled) (16 - (c.loop-doubled._doubled + 1)) c.loop-doubled.heads (c.loop-doubled.heads * 2) c.args.entries (omega arith) refl c.if-entries-heads.false) ∙ c.loop-doubled.invariant.0,
  omega (arith, c.loop-doubled.invariant.1),
)

pub returns-clause-heads : goal.returns-clause-heads
returns-clause-heads c =
    let none_left : 16 - c.loop-doubled._doubled ≡ 0 = omega arith in
    sym (ap (λ n. doubled_to n c.loop-doubled.heads c.args.entries) none_left ∙ doubled_last c.loop-doubled.heads c.args.entries) ∙ c.loop-doubled.invariant.0
