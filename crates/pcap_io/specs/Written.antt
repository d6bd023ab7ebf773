-- Believed: how captures are written.
use Rattle.std.specs.Prelude.{◌≡◌, ◌≤◌, ◌<◌, ◌^◌, ℕ, List, ◌++◌, length, All, Option, Some, None, Result, Ok, Err}
use Rattle.std.specs.List.{flat_map}
pub use Rattle.capture_bytes.specs.Numbers.{bytes_of, IsBytes}
use Rattle.capture_bytes.specs.declared.order.Endian.{Endian}
use Rattle.pcap_io.specs.declared.capture.CaptureFault.{CaptureFault}
use Rattle.capture_bytes.specs.declared.packet.PcapRecord.{PcapRecord}
use Rattle.pcap_io.specs.declared.capture.CaptureHead.{CaptureHead}
use Rattle.pcap_io.specs.Capture.{Body, magic_of, next_of, IsShort}

-- the 24 bytes of a head: magic, version 2.4, zone, sigfigs, snaplen, link type 1
unfoldable pub head_bytes : CaptureHead → List ℕ
head_bytes head =
    bytes_of head.order 4 (magic_of head.unit) ++ bytes_of head.order 2 2 ++ bytes_of head.order 2 4
    ++ bytes_of head.order 4 head.zone ++ bytes_of head.order 4 head.sigfigs ++ bytes_of head.order 4 head.snaplen ++ bytes_of head.order 4 1

-- the 16 bytes before a frame: seconds, fraction, captured length, original length
unfoldable pub record_head : Endian → PcapRecord → List ℕ
record_head order r = bytes_of order 4 r.seconds ++ bytes_of order 4 r.fraction ++ bytes_of order 4 (length r.frame) ++ bytes_of order 4 r.wire

-- a record of a capture in this order
abbrev pub record_bytes : Endian → PcapRecord → List ℕ
record_bytes order r = record_head order r ++ r.frame

-- the numbers of a head fit in 32 bits
pub record FitsHead (head : CaptureHead) : Type 0 where
  pub zone : head.zone < 2 ^ 32
  pub sigfigs : head.sigfigs < 2 ^ 32
  pub snaplen : head.snaplen < 2 ^ 32

-- the numbers of a record fit in 32 bits, and its frame has an accepted length
pub record FitsRecord (r : PcapRecord) : Type 0 where
  pub seconds : r.seconds < 2 ^ 32
  pub fraction : r.fraction < 2 ^ 32
  pub wire : r.wire < 2 ^ 32
  pub short : IsShort r

-- the bytes of a whole capture: its head, and its records one after the other
abbrev pub capture_bytes : CaptureHead → List PcapRecord → List ℕ
capture_bytes head records = head_bytes head ++ flat_map (record_bytes head.order) records

-- what the table says if there is no record
abbrev pub ending_of : Option CaptureFault → Result (Option (PcapRecord × List ℕ)) CaptureFault
ending_of None = Ok None
ending_of (Some fault) = Err fault

-- The bytes are those of this head and these records, followed by a tail in which nothing is left or
-- this fault is found.
pub record IsCapture (bytes : List ℕ) (head : CaptureHead) (body : Body) : Type 0 where
  pub tail : List ℕ
  pub whole : bytes ≡ capture_bytes head body.records ++ tail
  pub head_fits : FitsHead head
  pub records_fit : All FitsRecord body.records
  pub few : length body.records ≤ 4294967295
  pub ending : next_of head.order (length body.records) tail ≡ ending_of body.fault
