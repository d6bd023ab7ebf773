-- For proofs: what a reader of captures does: its state, and what it takes off the bytes that remain in Capture.
use Rattle.std.specs.Prelude.{◌≡◌, ◌≤◌, ◌<◌, ◌+◌, ℕ, List, [], drop, Bool, true, false, Option, Some, None, IfSome, Result, Ok, Err, IsErrOf}
use Rattle.std.specs.Option.{option_map}
use Rattle.nfp_outside.specs.declared.slot.Slot.{Slot}
use Rattle.nfp_outside.specs.declared.slot.Slot.TheVariants.{Capture as CaptureSlot}
use Rattle.nfp_outside.specs.Outside.{SlotView, IsRisen}
use Rattle.capture_bytes.specs.declared.order.Endian.{Endian}
use Rattle.pcap_io.specs.declared.capture.CaptureHead.{CaptureHead}
use Rattle.capture_bytes.specs.declared.packet.PcapRecord.{PcapRecord}
use Rattle.pcap_io.specs.declared.capture.CaptureFault.{CaptureFault}
use Rattle.pcap_io.specs.declared.capture.CaptureFault.TheVariants.{BadMagic, BadVersion, BadLink, CutHead, CutRecord, FrameTooLong, TooManyRecords}
use Rattle.pcap_io.specs.declared.fault.PcapFault.{PcapFault}
use Rattle.pcap_io.specs.declared.fault.PcapFault.TheVariants.{ReadFault}
pub use Rattle.pcap_io.specs.Capture.{IsHeadFault}
use Rattle.pcap_io.specs.Capture.{Body, body_of, capture_of, head_of, next_of, with_record, IsShort}

-- the state of a reader: the order of the numbers, the number of records it returned, and whether it was refused
pub record ReaderState : Type 0 where
  pub order : Endian
  pub given : ℕ
  pub spent : Bool

-- a reader that returned this number of records, and wasn't refused
abbrev pub reader_at : Endian → ℕ → ReaderState
reader_at order given = record { order = order; given = given; spent = false }

-- the same reader after it was refused
abbrev pub refused : ReaderState → ReaderState
refused reader = record { order = reader.order; given = reader.given; spent = true }

-- what comes next in the bytes that remain, if the desk shows them
abbrev pub next_left : ReaderState → SlotView → Option (Result (Option (PcapRecord × List ℕ)) CaptureFault)
next_left reader slot = option_map (next_of reader.order reader.given) slot.bytes

-- the records that are still to come and their fault, if the desk shows the bytes that remain
abbrev pub body_left : ReaderState → SlotView → Option Body
body_left reader slot = option_map (body_of reader.order reader.given) slot.bytes

-- the head was read, and the body remains
pub record ReadsHead (head : CaptureHead) (reader : ReaderState) (old new : SlotView) : Type 0 where
  pub fresh : reader ≡ reader_at head.order 0
  pub accepted : IfSome old.bytes (λ bytes. head_of bytes ≡ Ok head)
  pub rest : new.bytes ≡ option_map (drop 24) old.bytes
  pub whole : option_map capture_of old.bytes ≡ option_map (λ body. Ok (head, body)) (body_left reader new)

-- the head is refused with this fault
pub record RefusesHead (fault : CaptureFault) (old : SlotView) : Type 0 where
  pub kind : IsHeadFault fault
  pub first : IfSome old.bytes (λ bytes. head_of bytes ≡ Err fault)
  pub whole : IfSome old.bytes (λ bytes. capture_of bytes ≡ Err fault)

-- a record was read, and what follows it remains
pub record ReadsRecord (r : PcapRecord) (before after : ReaderState) (old new : SlotView) : Type 0 where
  pub counted : after ≡ reader_at before.order (before.given + 1)
  pub few : before.given < 4294967295
  pub short : IsShort r
  pub next : next_left before old ≡ option_map (λ rest. Ok (Some (r, rest))) new.bytes
  pub whole : body_left before old ≡ option_map (with_record r) (body_left after new)

-- nothing remains
pub record IsAtEnd (before after : ReaderState) (old new : SlotView) : Type 0 where
  pub same : after ≡ before
  pub left : new.bytes ≡ old.bytes
  pub empty : IfSome old.bytes (λ bytes. bytes ≡ [])
  pub whole : IfSome (body_left before old) (λ body. body ≡ record { records = []; fault = None })

-- a fault of the record after this number of records
abbrev pub IsRecordFault : ℕ → CaptureFault → Type 0
IsRecordFault given BadMagic = ⊥
IsRecordFault given BadVersion = ⊥
IsRecordFault given (BadLink link) = ⊥
IsRecordFault given CutHead = ⊥
IsRecordFault given (CutRecord n) = (given < 4294967295) × (n ≡ given + 1)
IsRecordFault given (FrameTooLong n length) = (given < 4294967295) × (n ≡ given + 1) × (262144 < length)
IsRecordFault given TooManyRecords = given ≡ 4294967295

-- the bytes that remain are refused with this fault
pub record RefusesRecord (fault : CaptureFault) (before : ReaderState) (old : SlotView) : Type 0 where
  pub kind : IsRecordFault before.given fault
  pub next : IfSome (next_left before old) (λ next. next ≡ Err fault)
  pub whole : IfSome (body_left before old) (λ body. body ≡ record { records = []; fault = Some fault })

-- a reader returns a read fault of the slot Capture alone, and only if its count rose
pub record ReaderCause {T : Type 0} (old new : SlotView) (result : Result T PcapFault) : Type 0 where
  pub later : old.faults ≤ new.faults
  pub read_fault : (slot : Slot) → IsErrOf result (ReadFault slot) → (slot ≡ CaptureSlot) × IsRisen old.faults new.faults
