use Rattle.std.proofs.Common.{[], ◌∷◌}
use Rattle.packet_messages.specs.Messages.{PlainMessage.Live, PlainMessage.Nil}
use Rattle.runners_tests.proofs.messages.in_rows.Given as goal

-- what is due on a link is what it is made for
abbrev pub ghosts-two_due : goal.ghosts-two_due
ghosts-two_due g a = record { due = Live a.part ∷ Nil a.position ∷ [] }
