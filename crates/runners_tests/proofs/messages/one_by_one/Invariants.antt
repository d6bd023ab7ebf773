use Rattle.std.proofs.Common.{[], ◌∷◌}
use Rattle.packet_messages.specs.Messages.{PlainMessage.Live, PlainMessage.Nil, PlainMessage.Short}
use Rattle.runners_tests.proofs.messages.one_by_one.Given as goal

-- what is due on a link is what it is made for
abbrev pub ghosts-each_due : goal.ghosts-each_due
ghosts-each_due g a = record { due = Live a.part ∷ Nil a.position ∷ Short ∷ [] }
