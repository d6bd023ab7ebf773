use Rattle.merge_ops.proofs.Same.{same_taken}
use Rattle.merge_ops.proofs.merging.put_part.Goals as goal

pub returns-in-Some-take-clause-others : goal.returns-in-Some-take-clause-others
returns-in-Some-take-clause-others c = λ f apart. same_taken f c.args.field c.args.arrivals.now c.in-Some.branch c.take.new.self c.index-arrivals-branch.result apart c.take.ensures.left

pub returns-in_default-take-clause-others : goal.returns-in_default-take-clause-others
returns-in_default-take-clause-others c = λ f apart. same_taken f c.args.field c.args.arrivals.now c.in-Some.branch c.take.new.self c.index-arrivals-branch.result apart c.take.ensures.left
