use Rattle.std.proofs.Common.{◌≡◌, ◌++◌, take, map}
use Rattle.text_lines.specs.Texts.{spaced}
use Rattle.plan_text.specs.Plan.{name_in}
use Rattle.plan_text.proofs.branches.put_names.Given as goal

-- the names so far
abbrev pub invariant-positions : goal.invariant-positions
invariant-positions l = l.out.items ≡ l.fn.out.items ++ spaced (map (name_in l.functions l.order) (take l.position-index l.positions))
