use Rattle.std.proofs.Common.{[], ◌∷◌}
use Rattle.runners_tests.proofs.boards.in_turn.Given as goal

-- what is due on a board is what it is made for
abbrev pub ghosts-new_meeting : goal.ghosts-new_meeting
ghosts-new_meeting g a = record { due = (5 ∷ 15 ∷ []) ∷ (6 ∷ 16 ∷ []) ∷ [] }
