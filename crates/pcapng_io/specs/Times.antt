-- Believed: the time that an interface's ticks mean (draft-ietf-opsawg-pcapng, if_tsresol and timestamps of packets).
use Rattle.std.specs.Prelude.{◌*◌, ◌/◌, ◌-◌, ◌^◌, ℕ, Bool, ◌||◌, ◌&&◌, nat_le, nat_lt, if◌then◌else◌, min}

-- the resolutions that are accepted: tens from 0 to 18, and twos, with the top bit set, from 0 to 60
abbrev pub is_resolution : ℕ → Bool
is_resolution r = nat_le r 18 || (nat_le 128 r && nat_le r 188)

-- the number of ticks in a second: the power of ten, or of two if the top bit is set
abbrev pub ticks_in_second : ℕ → ℕ
ticks_in_second r = if nat_lt r 128 then 10 ^ r else 2 ^ (r - 128)

-- whole nanoseconds of this number of ticks, at most the last one whose seconds fit in 32 bits
abbrev pub nanoseconds_of : ℕ → ℕ → ℕ
nanoseconds_of in_second ticks = min (ticks * 1000000000 / in_second) 4294967295999999999
