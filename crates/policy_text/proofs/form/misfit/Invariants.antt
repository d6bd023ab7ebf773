use Rattle.std.proofs.Common.{◌≡◌, ◌+◌, ◌≤◌, length, drop}
use Rattle.policy_text.specs.Forms.{misfit_from}
use Rattle.policy_text.proofs.form.misfit.Given as goal

-- the rest decides
abbrev pub invariant-forms : goal.invariant-forms
invariant-forms l = (l.place ≡ l.wanted-index + 1) × (l.place ≤ length l.words) × (misfit_from l.place (drop l.wanted-index l.form) (drop l.place l.words) ≡ misfit_from 1 l.form (drop 1 l.words))
