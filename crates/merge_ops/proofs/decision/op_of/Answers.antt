use Rattle.std.proofs.Common.{◌∙◌, ℕ, ap, sym}
use Rattle.std.specs.Prelude.{Option}
use Rattle.merge_ops.specs.Merging.{op_from}
use Rattle.merge_ops.proofs.Writable.{none_last}
use Rattle.merge_ops.proofs.decision.op_of.Goals as goal

pub returns-then-not-has : goal.returns-then-not-has
returns-then-not-has c = sym (ap (λ (o : Option ℕ). op_from c.args.field o) (none_last c.args.arrivals.now c.args.field (c.requires.unwritten (sym c.has.ensures ∙ c.if-not-has.true))))
