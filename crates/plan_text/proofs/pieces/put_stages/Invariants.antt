use Rattle.std.proofs.Common.{◌≡◌, ◌+◌, ◌++◌, drop}
use Rattle.plan_text.specs.Plan.{numbered, stage_text}
use Rattle.plan_text.proofs.pieces.put_stages.Given as goal

-- the stages so far, and those of the rest
abbrev pub invariant-stages : goal.invariant-stages
invariant-stages l = l.out.items ++ numbered (stage_text l.functions l.order) (l.number + l.index) (drop l.index l.stages) ≡ l.fn.out.items ++ numbered (stage_text l.functions l.order) l.number l.stages
