use Rattle.std.proofs.Common.{◌≡◌, drop}
use Rattle.graph_text.specs.Forms.{has_branch}
use Rattle.graph_text.proofs.forms.has_branch.Given as goal

-- the rest decides
abbrev pub invariant-lines : goal.invariant-lines
invariant-lines l = has_branch (drop l.line-index l.lines) ≡ has_branch l.lines
