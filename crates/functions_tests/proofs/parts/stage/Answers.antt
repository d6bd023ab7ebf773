use Rattle.std.proofs.Common.{◌≡◌, ◌∙◌, List, ap, sym}
use Rattle.action_profile.specs.Modes.{modes_of}
use Rattle.action_profile.specs.declared.parts.Touch.{Touch}
use Rattle.functions_tests.proofs.VersionRows.{translating, translating_modes}
use Rattle.functions_tests.proofs.parts.stage.Goals as goal

pub returns-clause-modes : goal.returns-clause-modes
returns-clause-modes g c =
    let items : c.had.result.items ≡ translating = rw c.had.ensures at c.from_array.ensures.items in
    sym translating_modes ∙ ap (λ (ts : List Touch). modes_of ts) (sym (c.new.ensures ∙ items))
