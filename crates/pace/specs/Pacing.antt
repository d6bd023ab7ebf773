-- For proofs: which way a burst goes.
use Rattle.std.specs.Prelude.{ℕ, ◌+◌, ◌-◌, ◌*◌, ◌/◌, ◌&&◌, ◌||◌, min, max, Bool, true, false, not, nat_le, nat_lt, if◌then◌else◌, Option, Some, None}
use Rattle.pace.specs.declared.pace.Lead.{Lead}
use Rattle.pace.specs.declared.pace.Lead.TheVariants.{Threads, Alone}
use Rattle.pace.specs.declared.pace.Pace.{Pace}
use Rattle.pace.specs.declared.pace.Part.{Part}
use Rattle.pace.specs.declared.pace.Part.TheVariants.{FirstOnThreads, FirstAlone, MoreOnThreads, MoreAlone, Chosen}
use Rattle.pace.specs.declared.way.Way.{Way}

-- The time of a packet that is kept for a way: the least seen, which rises by a sixteenth with each sample, since
-- disturbances only delay packets.
abbrev pub kept : Option ℕ → ℕ → ℕ
kept None each = each
kept (Some before) each = min each (before + before / 16)

-- sums stop at the greatest number of their type
abbrev pub packets_sum : ℕ → ℕ → ℕ
packets_sum some more = min (some + more) 4294967295

abbrev pub nanos_sum : ℕ → ℕ → ℕ
nanos_sum some more = min (some + more) 18446744073709551615

-- a sample of this number of packets, which took this time, is full with 1,024 packets, and is then judged
abbrev pub sampled : ℕ → ℕ → Option ℕ → Way
sampled packets nanos each =
    if nat_le 1024 packets
    then record { each = Some (kept each (nanos / packets)); packets = 0; nanos = 0 }
    else record { each = each; packets = packets; nanos = nanos }

-- one more burst went this way
abbrev pub timed : ℕ → ℕ → Way → Way
timed packets nanos way = sampled (packets_sum way.packets packets) (nanos_sum way.nanos nanos) way.each

-- a packet is light if it takes under 4 microseconds on one thread: passing it between threads costs more than they
-- save
abbrev pub is_light : ℕ → Bool
is_light alone = nat_lt alone 4000

abbrev pub are_light : Option ℕ → Bool
are_light (Some alone) = is_light alone
are_light None = false

-- threads pay off if packets aren't light and threads save a tenth of the time of one
abbrev pub pays : ℕ → ℕ → Bool
pays threads alone = not (is_light alone) && nat_le threads (alone - alone / 10)

-- by what a packet takes on threads and on one
abbrev pub better : Option ℕ → Option ℕ → Lead
better (Some threads) (Some alone) = if pays threads alone then Threads else Alone
better (Some threads) None = Threads
better None alone = Threads

-- A round tries each way with one burst or a few, then threads and one thread with more; the better way takes the rest.
abbrev pub lead_by : Part → Option ℕ → Option ℕ → Lead
lead_by FirstOnThreads threads alone = Threads
lead_by FirstAlone threads alone = Alone
lead_by MoreOnThreads threads alone = Threads
lead_by MoreAlone threads alone = Alone
lead_by Chosen threads alone = better threads alone

abbrev pub lead_of : Pace → Lead
lead_of pace = lead_by pace.part pace.threads.each pace.alone.each

-- the number of packets of a part
abbrev pub size : Part → ℕ
size FirstOnThreads = 1024
size FirstAlone = 1024
size MoreOnThreads = 8192
size MoreAlone = 2048
size Chosen = 514048

-- the number of packets that go the way of a part before the next decision: few until a way is known
abbrev pub most_by : Part → Option ℕ → ℕ
most_by MoreOnThreads None = 1024
most_by part threads = size part

abbrev pub most : Pace → ℕ
most pace = most_by pace.part pace.threads.each

-- the first part has one burst
abbrev pub is_over : Part → ℕ → Bool
is_over FirstOnThreads packets = true
is_over part packets = nat_le (size part) packets

-- threads are hopeless if packets are light, or if threads take more than four times as long
abbrev pub are_hopeless : Option ℕ → Option ℕ → Bool
are_hopeless (Some threads) (Some alone) = is_light alone || nat_lt alone (threads / 4)
are_hopeless None (Some alone) = is_light alone
are_hopeless threads None = false

-- a hopeless way isn't tried with more bursts, and if packets are light no new round begins
abbrev pub next_part : Option ℕ → Option ℕ → Part → Part
next_part threads alone FirstOnThreads = FirstAlone
next_part threads alone FirstAlone = if are_hopeless threads alone then Chosen else MoreOnThreads
next_part threads alone MoreOnThreads = MoreAlone
next_part threads alone MoreAlone = Chosen
next_part threads alone Chosen = if are_light alone then Chosen else FirstOnThreads

-- Threads have failed in a part once its packets took more than twice the time of one thread. Fewer than 1,024 packets
-- are measured against the time of 1,024.
abbrev pub have_failed : Option ℕ → ℕ → ℕ → Bool
have_failed (Some alone) packets nanos = nat_lt alone (nanos / (2 * max packets 1024))
have_failed None packets nanos = false

-- one thread takes the rest of the round; what a packet took in that part is all that is kept of threads
abbrev pub left : ℕ → ℕ → Pace → Pace
left packets nanos pace =
    record pace { threads = record { each = Some (nanos / packets); packets = 0; nanos = 0 }; part = Chosen; packets = 0; nanos = 0 }

-- the part has had this number of packets, which took this time
abbrev pub after : ℕ → ℕ → Pace → Pace
after packets nanos pace =
    if is_over pace.part packets
    then record pace { part = next_part pace.threads.each pace.alone.each pace.part; packets = 0; nanos = 0 }
    else record pace { packets = packets; nanos = nanos }

abbrev pub after_on_threads : ℕ → ℕ → Pace → Pace
after_on_threads packets nanos pace =
    if have_failed pace.alone.each packets nanos then left packets nanos pace else after packets nanos pace

-- one more burst, of this number of packets, ran on threads or on one thread
abbrev pub after_burst_on_threads : ℕ → ℕ → Pace → Pace
after_burst_on_threads packets nanos pace =
    after_on_threads (packets_sum pace.packets packets) (nanos_sum pace.nanos nanos) (record pace { threads = timed packets nanos pace.threads })

abbrev pub after_burst_alone : ℕ → ℕ → Pace → Pace
after_burst_alone packets nanos pace =
    after (packets_sum pace.packets packets) (nanos_sum pace.nanos nanos) (record pace { alone = timed packets nanos pace.alone })
