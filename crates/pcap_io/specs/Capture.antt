-- Believed: the classic pcap file format: a head of 24 bytes, then records, each with a head of 16 bytes and a frame.
use Rattle.std.specs.Prelude.{◌≡◌, ◌+◌, ℕ, zero, suc, List, [], ◌∷◌, length, take, drop, if◌then◌else◌, ◌==◌, nat_lt, ◌&&◌, Option, Some, None, Result, Ok, Err, IsErr}
use Rattle.capture_bytes.specs.declared.order.Endian.{Endian}
use Rattle.capture_bytes.specs.declared.order.Endian.TheVariants.{Big, Little}
use Rattle.capture_bytes.specs.declared.packet.Unit.{Unit as TimeUnit}
use Rattle.capture_bytes.specs.declared.packet.Unit.TheVariants.{Micro, Nano}
pub use Rattle.capture_bytes.specs.Numbers.{number_at}
pub use Rattle.capture_bytes.specs.Packets.{time_of, IsShort}
use Rattle.pcap_io.specs.declared.capture.CaptureHead.{CaptureHead}
use Rattle.pcap_io.specs.declared.capture.CaptureFault.{CaptureFault}
use Rattle.pcap_io.specs.declared.capture.CaptureFault.TheVariants.{BadMagic, BadVersion, BadLink, CutHead, CutRecord, FrameTooLong, TooManyRecords}
use Rattle.capture_bytes.specs.declared.packet.PcapRecord.{PcapRecord}

-- the magic number of a unit
abbrev pub magic_of : TimeUnit → ℕ
magic_of Micro = 0xa1b2c3d4
magic_of Nano = 0xa1b23c4d

-- the order in which the first four bytes are a magic number, and the unit that it denotes
abbrev pub kind_of : List ℕ → Option (Endian × TimeUnit)
kind_of bytes =
    if number_at Little 4 0 bytes == magic_of Micro then Some (Little, Micro)
    else if number_at Little 4 0 bytes == magic_of Nano then Some (Little, Nano)
    else if number_at Big 4 0 bytes == magic_of Micro then Some (Big, Micro)
    else if number_at Big 4 0 bytes == magic_of Nano then Some (Big, Nano)
    else None

-- a head of this kind: magic, version 2.4, zone, sigfigs, snaplen, and the link type 1, Ethernet
abbrev pub head_of_kind : List ℕ → Option (Endian × TimeUnit) → Result CaptureHead CaptureFault
head_of_kind bytes None = Err BadMagic
head_of_kind bytes (Some (order, unit)) =
    if (number_at order 2 4 bytes == 2) && (number_at order 2 6 bytes == 4) then
    (if number_at order 4 20 bytes == 1 then Ok (record {
      order = order;
      unit = unit;
      zone = number_at order 4 8 bytes;
      sigfigs = number_at order 4 12 bytes;
      snaplen = number_at order 4 16 bytes;
    })
    else Err (BadLink (number_at order 4 20 bytes)))
    else Err BadVersion

-- the head of a capture, or the first reason to refuse it
abbrev pub head_of : List ℕ → Result CaptureHead CaptureFault
head_of bytes = if nat_lt (length bytes) 24 then Err CutHead else head_of_kind bytes (kind_of bytes)

-- a fault of a head
abbrev pub IsHeadFault : CaptureFault → Type 0
IsHeadFault BadMagic = Unit {0}
IsHeadFault BadVersion = Unit {0}
IsHeadFault (BadLink link) = Unit {0}
IsHeadFault CutHead = Unit {0}
IsHeadFault (CutRecord n) = ⊥
IsHeadFault (FrameTooLong n length) = ⊥
IsHeadFault TooManyRecords = ⊥

-- the captured length of the record at the front
abbrev pub captured_of : Endian → List ℕ → ℕ
captured_of order bytes = number_at order 4 8 bytes

-- the record at the front: seconds, fraction, captured length, original length, and the frame
abbrev pub record_of : Endian → List ℕ → PcapRecord
record_of order bytes = record {
  seconds = number_at order 4 0 bytes;
  fraction = number_at order 4 4 bytes;
  wire = number_at order 4 12 bytes;
  frame = take (captured_of order bytes) (drop 16 bytes);
}

-- What follows this number of records: the end, a record and the bytes after it, or a fault.
abbrev pub next_of : Endian → ℕ → List ℕ → Result (Option (PcapRecord × List ℕ)) CaptureFault
next_of order given bytes =
    if length bytes == 0 then Ok None
    else if given == 4294967295 then Err TooManyRecords
    else if nat_lt (length bytes) 16 then Err (CutRecord (given + 1))
    else if nat_lt 262144 (captured_of order bytes) then Err (FrameTooLong (given + 1) (captured_of order bytes))
    else if nat_lt (length bytes) (16 + captured_of order bytes) then Err (CutRecord (given + 1))
    else Ok (Some (record_of order bytes, drop (16 + captured_of order bytes) bytes))

-- the record that comes next, or none because of a fault
abbrev pub IsNext : Option (PcapRecord × List ℕ) → Result (Option (PcapRecord × List ℕ)) CaptureFault → Type 0
IsNext None next = IsErr next
IsNext (Some x) next = next ≡ Ok (Some x)

-- the records of a capture, and the fault that ends them, if one does
pub record Body : Type 0 where
  pub records : List PcapRecord
  pub fault : Option CaptureFault

-- a record before others
abbrev pub with_record : PcapRecord → Body → Body
with_record r rest = record { records = r ∷ rest.records; fault = rest.fault }

-- what comes next, and what follows a record
abbrev pub and_rest : (List ℕ → Body) → Result (Option (PcapRecord × List ℕ)) CaptureFault → Body
and_rest rest (Ok None) = record { records = []; fault = None }
and_rest rest (Ok (Some (r, bytes))) = with_record r (rest bytes)
and_rest rest (Err fault) = record { records = []; fault = Some fault }

-- the same up to `n` records; a record takes bytes, so a number of bytes is enough
abbrev pub body_within : ℕ → Endian → ℕ → List ℕ → Body
body_within zero order given bytes = record { records = []; fault = None }
body_within (suc n) order given bytes = and_rest (body_within n order (given + 1)) (next_of order given bytes)

-- all records after this number of records, and the fault that ends them
unfoldable pub body_of : Endian → ℕ → List ℕ → Body
body_of order given bytes = body_within (length bytes + 1) order given bytes

-- a whole capture: its head, or the reason to refuse it, and the body after it
abbrev pub with_body : List ℕ → Result CaptureHead CaptureFault → Result (CaptureHead × Body) CaptureFault
with_body bytes (Ok head) = Ok (head, body_of head.order 0 bytes)
with_body bytes (Err fault) = Err fault

abbrev pub capture_of : List ℕ → Result (CaptureHead × Body) CaptureFault
capture_of bytes = with_body (drop 24 bytes) (head_of bytes)

-- The same as a relation: the records come one after the other, and then the end or a fault.
abbrev pub IsBody : Endian → ℕ → List ℕ → List PcapRecord → Option CaptureFault → Type 0
IsBody order given bytes [] None = next_of order given bytes ≡ Ok None
IsBody order given bytes [] (Some fault) = next_of order given bytes ≡ Err fault
IsBody order given bytes (r ∷ rs) fault = (rest : List ℕ) × (next_of order given bytes ≡ Ok (Some (r, rest))) × IsBody order (given + 1) rest rs fault
