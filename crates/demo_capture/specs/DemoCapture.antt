-- Believed: the policy and the capture of the demo.
use Rattle.std.specs.Prelude.{codes, ℕ, zero, suc, ◌+◌, ◌*◌, ◌/◌, ◌%◌, List, [], ◌∷◌, length, None}
use Rattle.std.specs.List.{flat_map}
use Rattle.pcap_io.specs.declared.capture.CaptureHead.{CaptureHead}
use Rattle.capture_bytes.specs.declared.order.Endian.TheVariants.{Little}
use Rattle.capture_bytes.specs.declared.packet.PcapRecord.{PcapRecord}
use Rattle.capture_bytes.specs.declared.packet.Unit.TheVariants.{Micro}
use Rattle.pcap_io.specs.Capture.{Body}
use Rattle.text_lines.specs.Texts.{line_of}
use Rattle.demo_capture.specs.declared.draws.Draws.{Draws}
use Rattle.demo_capture.specs.Draws.{draws_after, number_after}
use Rattle.demo_capture.specs.DemoFrames.{frame_of}

-- the lines of the policy
unfoldable pub policy_lines : List (List ℕ)
policy_lines =
    codes "nfp 1"
    ∷ codes "chain web match proto tcp"
    ∷ codes "fn mon monitor"
    ∷ codes "fn fw firewall"
    ∷ codes "rule deny src 10.0.3.0/24"
    ∷ codes "fn lb balancer"
    ∷ codes "set vip 198.51.100.1"
    ∷ codes "rule backend 10.9.0.1"
    ∷ codes "rule backend 10.9.0.2"
    ∷ codes "fn red redactor"
    ∷ codes "rule text secret"
    ∷ codes "fn ttl hop"
    ∷ codes "order mon before fw"
    ∷ codes "chain rest"
    ∷ codes "fn lim limiter"
    ∷ codes "set rate 100000"
    ∷ codes "set burst 2000"
    ∷ codes "fn mark marker"
    ∷ codes "rule tos 46 dst 198.51.100.0/30"
    ∷ codes "fn out nat"
    ∷ codes "set inside 10.0.0.0/8"
    ∷ codes "set public 192.0.2.1"
    ∷ codes "set ports 40000-40999"
    ∷ codes "fn vlan tagger"
    ∷ codes "rule vid 7 pcp 0 src 10.0.2.0/24"
    ∷ codes "position vlan first"
    ∷ []

-- the policy, each line ended by a line feed
unfoldable pub policy_text : List ℕ
policy_text = flat_map (λ line. line_of (line ∷ [])) policy_lines

-- little-endian, in microseconds, with snaplen 262144
abbrev pub demo_head : CaptureHead
demo_head = record { order = Little; unit = Micro; zone = 0; sigfigs = 0; snaplen = 262144 }

-- the record of this number, counted from 1, with these draws: one each millisecond, captured whole
unfoldable pub record_of : ℕ → Draws → PcapRecord
record_of i r = record { seconds = i / 1000; fraction = (i % 1000) * 1000; wire = length (frame_of r); frame = frame_of r }

-- this number of records from this number on, whose draws follow a number of the generator
unfoldable pub records_from : ℕ → ℕ → ℕ → List PcapRecord
records_from zero i x = []
records_from (suc n) i x = record_of i (draws_after x) ∷ records_from n (i + 1) (number_after 4 x)

-- the records of the capture of a seed and a count
abbrev pub demo_records : ℕ → ℕ → List PcapRecord
demo_records seed count = records_from count 1 seed

-- the same as the body of a capture, which ends without a fault
abbrev pub whole_body : List PcapRecord → Body
whole_body records = record { records = records; fault = None }
