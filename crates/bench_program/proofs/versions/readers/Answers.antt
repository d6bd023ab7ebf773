use Rattle.std.proofs.Common.{◌∙◌, List, ap, sym}
use Rattle.action_profile.specs.Modes.{modes_of}
use Rattle.action_profile.specs.declared.parts.Touch.{Touch}
use Rattle.bench_program.proofs.Rows.{watching_modes}
use Rattle.bench_program.proofs.versions.readers.Goals as goal

pub returns-clause-modes : goal.returns-clause-modes
returns-clause-modes c = sym watching_modes ∙ ap (λ (ts : List Touch). modes_of ts) (sym (c.new.ensures ∙ c.in_ok-touches.ensures.items))
