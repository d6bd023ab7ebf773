-- Captures byte by byte, with what the definitions give for them.
use Rattle.std.proofs.Common.{◌≡◌, ◌+◌, ◌++◌, ℕ, List, [], ◌∷◌, take, refl}
use Rattle.std.specs.Prelude.{Some, None, Ok, Err, replicate}
use Rattle.capture_bytes.specs.declared.order.Endian.TheVariants.{Big, Little}
use Rattle.capture_bytes.specs.declared.packet.Unit.TheVariants.{Micro, Nano}
use Rattle.pcap_io.specs.declared.capture.CaptureFault.TheVariants.{BadMagic, BadVersion, BadLink, CutHead, CutRecord, FrameTooLong, TooManyRecords}
use Rattle.pcap_io.specs.declared.capture.CaptureHead.{CaptureHead}
use Rattle.capture_bytes.specs.declared.packet.PcapRecord.{PcapRecord}
use Rattle.pcap_io.specs.Capture.{head_of, next_of, body_of, capture_of, time_of}
use Rattle.pcap_io.specs.Written.{head_bytes, record_head, record_bytes}

-- little-endian, in microseconds, snaplen 65535
abbrev micro_head : List ℕ
micro_head = 0xd4 ∷ 0xc3 ∷ 0xb2 ∷ 0xa1 ∷ 2 ∷ 0 ∷ 4 ∷ 0 ∷ 0 ∷ 0 ∷ 0 ∷ 0 ∷ 0 ∷ 0 ∷ 0 ∷ 0 ∷ 0xff ∷ 0xff ∷ 0 ∷ 0 ∷ 1 ∷ 0 ∷ 0 ∷ 0 ∷ []

-- big-endian, in nanoseconds, snaplen 65535
abbrev nano_head : List ℕ
nano_head = 0xa1 ∷ 0xb2 ∷ 0x3c ∷ 0x4d ∷ 0 ∷ 2 ∷ 0 ∷ 4 ∷ 0 ∷ 0 ∷ 0 ∷ 0 ∷ 0 ∷ 0 ∷ 0 ∷ 0 ∷ 0 ∷ 0 ∷ 0xff ∷ 0xff ∷ 0 ∷ 0 ∷ 0 ∷ 1 ∷ []

abbrev micro : CaptureHead
micro = record { order = Little; unit = Micro; zone = 0; sigfigs = 0; snaplen = 65535 }

abbrev nano : CaptureHead
nano = record { order = Big; unit = Nano; zone = 0; sigfigs = 0; snaplen = 65535 }

reads_micro : head_of micro_head ≡ Ok micro
reads_micro = refl

reads_nano : head_of nano_head ≡ Ok nano
reads_nano = refl

writes_micro : head_bytes micro ≡ micro_head
unfolding head_bytes
writes_micro = refl

writes_nano : head_bytes nano ≡ nano_head
unfolding head_bytes
writes_nano = refl

-- a UDP packet from 10.0.0.source, port 1000, to 10.0.0.2, port 53
abbrev packet : ℕ → ℕ → List ℕ
packet source check =
    (2 ∷ 0 ∷ 0 ∷ 0 ∷ 0 ∷ 2 ∷ 2 ∷ 0 ∷ 0 ∷ 0 ∷ 0 ∷ 1 ∷ 8 ∷ 0 ∷ [])
    ++ (0x45 ∷ 0 ∷ 0 ∷ 28 ∷ 0 ∷ 0 ∷ 0 ∷ 0 ∷ 64 ∷ 17 ∷ 0x66 ∷ check ∷ 10 ∷ 0 ∷ 0 ∷ source ∷ 10 ∷ 0 ∷ 0 ∷ 2 ∷ [])
    ++ (3 ∷ 0xe8 ∷ 0 ∷ 53 ∷ 0 ∷ 8 ∷ 0 ∷ 0 ∷ [])

abbrev numbers : ℕ → ℕ → List ℕ
numbers seconds fraction = seconds ∷ 0 ∷ 0 ∷ 0 ∷ fraction ∷ 1 ∷ 0 ∷ 0 ∷ 42 ∷ 0 ∷ 0 ∷ 0 ∷ 60 ∷ 0 ∷ 0 ∷ 0 ∷ []

abbrev three : List ℕ
three = micro_head ++ numbers 1 2 ++ packet 1 0xcf ++ numbers 3 4 ++ packet 9 0xc7 ++ numbers 5 6 ++ packet 1 0xcf

abbrev read : ℕ → ℕ → List ℕ → PcapRecord
read seconds fraction frame = record { seconds = seconds; fraction = 256 + fraction; wire = 60; frame = frame }

three_records : capture_of three ≡ Ok (micro, record { records = read 1 2 (packet 1 0xcf) ∷ read 3 4 (packet 9 0xc7) ∷ read 5 6 (packet 1 0xcf) ∷ []; fault = None })
unfolding body_of
three_records = refl

written_again : record_bytes Little (read 3 4 (packet 9 0xc7)) ≡ numbers 3 4 ++ packet 9 0xc7
unfolding record_head
written_again = refl

no_records : capture_of micro_head ≡ Ok (micro, record { records = []; fault = None })
unfolding body_of
no_records = refl

-- cut inside the third record, in its frame and in its head
cut_in_frame : body_of Little 1 (take 115 (numbers 3 4 ++ packet 9 0xc7 ++ numbers 5 6 ++ packet 1 0xcf)) ≡ record { records = read 3 4 (packet 9 0xc7) ∷ []; fault = Some (CutRecord 3) }
unfolding body_of
cut_in_frame = refl

cut_in_head : body_of Little 1 (take 73 (numbers 3 4 ++ packet 9 0xc7 ++ numbers 5 6)) ≡ record { records = read 3 4 (packet 9 0xc7) ∷ []; fault = Some (CutRecord 3) }
unfolding body_of
cut_in_head = refl

-- one byte less than a head, and heads with one fault each
cut_head : head_of (take 23 micro_head) ≡ Err CutHead
cut_head = refl

bad_magic : head_of (0xd5 ∷ replicate 23 0) ≡ Err BadMagic
bad_magic = refl

bad_version : head_of (take 4 micro_head ++ 2 ∷ 0 ∷ 3 ∷ 0 ∷ replicate 12 0 ++ 101 ∷ 0 ∷ 0 ∷ 0 ∷ []) ≡ Err BadVersion
bad_version = refl

bad_link : head_of (take 20 micro_head ++ 101 ∷ 0 ∷ 0 ∷ 0 ∷ []) ≡ Err (BadLink 101)
bad_link = refl

-- the longest frame that is accepted, of which nothing is present, and one byte more
longest : next_of Big 0 (replicate 8 0 ++ 0 ∷ 4 ∷ 0 ∷ 0 ∷ replicate 4 0) ≡ Err (CutRecord 1)
longest = refl

too_long : next_of Big 0 (replicate 8 0 ++ 0 ∷ 4 ∷ 0 ∷ 1 ∷ replicate 4 0) ≡ Err (FrameTooLong 1 262145)
too_long = refl

-- a byte after the most records that are counted
too_many : next_of Little 4294967295 (0 ∷ []) ≡ Err TooManyRecords
too_many = refl

-- a fraction may be beyond its unit
micro_time : time_of Micro (record { seconds = 2; fraction = 1500000; wire = 0; frame = [] }) ≡ 3500000000
micro_time = refl

nano_time : time_of Nano (record { seconds = 2; fraction = 1500000; wire = 0; frame = [] }) ≡ 2001500000
nano_time = refl
