use Rattle.std.proofs.Common.{◌≡◌, ◌≤◌, length, take}
use Rattle.flow_export.specs.Exports.{exported}
use Rattle.flow_export.proofs.packets.split_packet.Given as goal

-- those of the lines so far that are exported
abbrev pub invariant-lines : goal.invariant-lines
invariant-lines l = (l.count ≡ length (exported (take l.place l.lines))) × (l.count ≤ 30)
