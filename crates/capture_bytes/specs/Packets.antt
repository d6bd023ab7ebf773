-- Believed: a packet in a capture.
use Rattle.std.specs.Prelude.{◌≤◌, ◌+◌, ◌*◌, ℕ, length}
use Rattle.capture_bytes.specs.declared.packet.PcapRecord.{PcapRecord}
use Rattle.capture_bytes.specs.declared.packet.Unit.{Unit as TimeUnit}
use Rattle.capture_bytes.specs.declared.packet.Unit.TheVariants.{Micro, Nano}

-- the time of a record in nanoseconds
abbrev pub time_of : TimeUnit → PcapRecord → ℕ
time_of Micro r = r.seconds * 1000000000 + r.fraction * 1000
time_of Nano r = r.seconds * 1000000000 + r.fraction

-- a frame of an accepted length
abbrev pub IsShort : PcapRecord → Type 0
IsShort r = length r.frame ≤ 262144
