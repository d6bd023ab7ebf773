use Rattle.std.proofs.Common.{[], ◌∷◌}
use Rattle.runners_tests.proofs.links.talk.Given as goal

-- what is due on a link are the numbers that it is made for
abbrev pub ghosts-link_of : goal.ghosts-link_of
ghosts-link_of g a = record { due = a.first ∷ a.second ∷ a.third ∷ [] }
