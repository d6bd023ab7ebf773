use Rattle.std.proofs.Common.{◌≡◌, ◌++◌, take, map}
use Rattle.trace_text.specs.Kept.{kept_acts}
use Rattle.trace_text.proofs.acts.push_acts.Given as goal

-- the acts so far
abbrev pub invariant-acts : goal.invariant-acts
invariant-acts l = l.text.items ≡ l.fn.text.items ++ kept_acts (map (λ d. d.now) l.order) (take l.place l.acts)
