-- For proofs: what becomes of a packet that only one branch of a stage had.
use Rattle.std.specs.Prelude.{◌==◌, ◌&&◌, Option, Some, None, is_some, if◌then◌else◌}
use Rattle.action_profile.specs.Modes.{has_write}
use Rattle.action_profile.specs.declared.parts.Touch.{Touch}
use Rattle.packet_version.specs.Parts.{PlainPart, Parts, as_list}
use Rattle.packet_version.specs.Splitting.{PlainApart, packet_parts}
use Rattle.packet_version.specs.Versions.{PlainVersion, version_parts}

-- for a field that the branch writes its own part, if it wrote that or the packet lacks one, else the packet's
abbrev pub rejoined_part : Option PlainPart → Option PlainPart → Option PlainPart
rejoined_part None base = base
rejoined_part (Some part) base = if (part.writer == 0) && is_some base then base else Some part

-- for any other the packet's
abbrev pub rejoined_by : Touch → Parts → Parts → Parts
rejoined_by touch own base f = if has_write f touch then rejoined_part (own f) (base f) else base f

-- the parts of the packet after the stage, given what the branch had besides what it writes
abbrev pub rejoined_parts : PlainVersion → PlainApart → Parts
rejoined_parts version base = rejoined_by version.touch (version_parts version) (packet_parts base)

-- the packet with these parts
abbrev pub with_rejoined : PlainApart → Parts → PlainApart
with_rejoined base parts = record base { parts = as_list parts }
