-- The first records of the demo with seed 1, made by another program; a checksum that comes out as 0; times, the policy, the head, the summary.
use Rattle.std.proofs.Common.{◌≡◌, ℕ, List, [], ◌∷◌, ◌++◌, length, refl}
use Rattle.std.specs.Prelude.{codes}
use Rattle.std.specs.Fmt.{digits}
use Rattle.pcap_io.specs.Written.{head_bytes}
use Rattle.capture_bytes.specs.declared.packet.PcapRecord.{PcapRecord}
use Rattle.packet_fields.specs.Checksums.{words}
use Rattle.internet_checksum.specs.Checksums.{checksum_of}
use Rattle.demo_capture.specs.declared.draws.Draws.{Draws}
use Rattle.demo_capture.specs.Draws.{draws_after, letters, next_number}
use Rattle.demo_capture.specs.DemoFrames.{frame_of, frame_with, ip_header, segment_checksum, segment_with}
use Rattle.demo_capture.specs.DemoCapture.{demo_head, demo_records, policy_lines, policy_text, record_of, records_from}
use Rattle.demo_capture.specs.Summary.{demo_line, records_line, summary_text, weighed_line}

abbrev link : List ℕ
link = 2 ∷ 0 ∷ 0 ∷ 0 ∷ 0 ∷ 2 ∷ 2 ∷ 0 ∷ 0 ∷ 0 ∷ 0 ∷ 1 ∷ 8 ∷ 0 ∷ []

-- record 1: TCP, with an odd number of bytes of payload
abbrev first : List ℕ
first =
    link ++ (69 ∷ 0 ∷ 0 ∷ 91 ∷ 0 ∷ 0 ∷ 0 ∷ 0 ∷ 64 ∷ 6 ∷ 68 ∷ 10 ∷ 10 ∷ 0 ∷ 2 ∷ 94 ∷ 198 ∷ 51 ∷ 100 ∷ 2 ∷ [])
    ++ (4 ∷ 12 ∷ 0 ∷ 53 ∷ 0 ∷ 0 ∷ 0 ∷ 0 ∷ 0 ∷ 0 ∷ 0 ∷ 0 ∷ 80 ∷ 16 ∷ 0 ∷ 0 ∷ 88 ∷ 2 ∷ 0 ∷ 0 ∷ [])
    ++ codes "mnopqrstuvwxyzabcdefghijklmnopqrstuvwxyzabcdefghijk"

-- record 2: TCP, with an odd number of bytes of payload
abbrev second : List ℕ
second =
    link ++ (69 ∷ 0 ∷ 0 ∷ 99 ∷ 0 ∷ 0 ∷ 0 ∷ 0 ∷ 64 ∷ 6 ∷ 67 ∷ 191 ∷ 10 ∷ 0 ∷ 2 ∷ 159 ∷ 198 ∷ 51 ∷ 100 ∷ 4 ∷ [])
    ++ (4 ∷ 26 ∷ 0 ∷ 80 ∷ 0 ∷ 0 ∷ 0 ∷ 0 ∷ 0 ∷ 0 ∷ 0 ∷ 0 ∷ 80 ∷ 16 ∷ 0 ∷ 0 ∷ 179 ∷ 224 ∷ 0 ∷ 0 ∷ [])
    ++ codes "yzabcdefghijklmnopqrstuvwxyzabcdefghijklmnopqrstuvwxyzabcde"

-- record 3: TCP
abbrev third : List ℕ
third =
    link ++ (69 ∷ 0 ∷ 0 ∷ 97 ∷ 0 ∷ 0 ∷ 0 ∷ 0 ∷ 64 ∷ 6 ∷ 68 ∷ 230 ∷ 10 ∷ 0 ∷ 1 ∷ 123 ∷ 198 ∷ 51 ∷ 100 ∷ 3 ∷ [])
    ++ (4 ∷ 59 ∷ 0 ∷ 53 ∷ 0 ∷ 0 ∷ 0 ∷ 0 ∷ 0 ∷ 0 ∷ 0 ∷ 0 ∷ 80 ∷ 16 ∷ 0 ∷ 0 ∷ 213 ∷ 107 ∷ 0 ∷ 0 ∷ [])
    ++ codes "vwxyzabcdefghijklmnopqrstuvwxyzabcdefghijklmnopqrstuvwxyz"

-- record 4: TCP, with only the secret
abbrev fourth : List ℕ
fourth =
    link ++ (69 ∷ 0 ∷ 0 ∷ 46 ∷ 0 ∷ 0 ∷ 0 ∷ 0 ∷ 64 ∷ 6 ∷ 70 ∷ 86 ∷ 10 ∷ 0 ∷ 0 ∷ 64 ∷ 198 ∷ 51 ∷ 100 ∷ 1 ∷ [])
    ++ (4 ∷ 58 ∷ 0 ∷ 80 ∷ 0 ∷ 0 ∷ 0 ∷ 0 ∷ 0 ∷ 0 ∷ 0 ∷ 0 ∷ 80 ∷ 16 ∷ 0 ∷ 0 ∷ 58 ∷ 132 ∷ 0 ∷ 0 ∷ [])
    ++ codes "secret"

-- record 5: UDP, with the secret
abbrev fifth : List ℕ
fifth =
    link ++ (69 ∷ 0 ∷ 0 ∷ 54 ∷ 0 ∷ 0 ∷ 0 ∷ 0 ∷ 64 ∷ 17 ∷ 68 ∷ 101 ∷ 10 ∷ 0 ∷ 2 ∷ 23 ∷ 198 ∷ 51 ∷ 100 ∷ 8 ∷ [])
    ++ (4 ∷ 20 ∷ 0 ∷ 53 ∷ 0 ∷ 34 ∷ 84 ∷ 132 ∷ [])
    ++ codes "secretwxyzabcdefghijklmnop"

-- a captured record of this fraction
abbrev record_at : ℕ → List ℕ → PcapRecord
record_at fraction frame = record { seconds = 0; fraction = fraction; wire = length frame; frame = frame }

five_records : demo_records 1 5 ≡ record_at 1000 first ∷ record_at 2000 second ∷ record_at 3000 third ∷ record_at 4000 fourth ∷ record_at 5000 fifth ∷ []
unfolding records_from record_of next_number letters checksum_of segment_with segment_checksum ip_header frame_with words
five_records = refl

-- a UDP checksum that comes out as 0
abbrev no_sum : List ℕ
no_sum =
    link ++ (69 ∷ 0 ∷ 0 ∷ 32 ∷ 0 ∷ 0 ∷ 0 ∷ 0 ∷ 64 ∷ 17 ∷ 68 ∷ 35 ∷ 10 ∷ 0 ∷ 2 ∷ 111 ∷ 198 ∷ 51 ∷ 100 ∷ 8 ∷ [])
    ++ (4 ∷ 48 ∷ 0 ∷ 53 ∷ 0 ∷ 12 ∷ 255 ∷ 255 ∷ [])
    ++ codes "abcd"

zero_is_written_as_ones : frame_of (draws_after 705567) ≡ no_sum
unfolding next_number letters checksum_of segment_with segment_checksum ip_header frame_with words
zero_is_written_as_ones = refl

-- the longest frame of TCP, and the shortest of UDP
longest : length (frame_of (record { a = 0; b = 0; c = 0; d = 126 })) ≡ 117
unfolding letters checksum_of segment_with segment_checksum ip_header frame_with words
longest = refl

shortest : length (frame_of (record { a = 0; b = 0; c = 0; d = 1 })) ≡ 42
unfolding letters checksum_of segment_with segment_checksum ip_header frame_with words
shortest = refl

-- record 1999 is captured after 1.999 s, record 2000 after 2 s
seconds_1999 : (r : Draws) → (record_of 1999 r).seconds ≡ 1
unfolding record_of
seconds_1999 r = refl

fraction_1999 : (r : Draws) → (record_of 1999 r).fraction ≡ 999000
unfolding record_of
fraction_1999 r = refl

seconds_2000 : (r : Draws) → (record_of 2000 r).seconds ≡ 2
unfolding record_of
seconds_2000 r = refl

fraction_2000 : (r : Draws) → (record_of 2000 r).fraction ≡ 0
unfolding record_of
fraction_2000 r = refl

-- the policy has 26 lines
policy_len : length policy_text ≡ 480
unfolding policy_text policy_lines
policy_len = refl

head : head_bytes demo_head ≡ 0xd4 ∷ 0xc3 ∷ 0xb2 ∷ 0xa1 ∷ 2 ∷ 0 ∷ 4 ∷ 0 ∷ 0 ∷ 0 ∷ 0 ∷ 0 ∷ 0 ∷ 0 ∷ 0 ∷ 0 ∷ 0 ∷ 0 ∷ 4 ∷ 0 ∷ 1 ∷ 0 ∷ 0 ∷ 0 ∷ []
unfolding head_bytes
head = refl

summary : summary_text (record { seed = 18446744073709551615; count = 0; records = 12; emitted = 10; dropped = 2; out = record { bytes = 24; weight = 7 }; report = record { bytes = 100; weight = 18446744073709551615 } }) ≡ codes "demo 18446744073709551615 0\nrecords 12 emitted 10 dropped 2\nout 24 7\nreport 100 18446744073709551615\n"
unfolding demo_line records_line weighed_line digits
summary = refl
