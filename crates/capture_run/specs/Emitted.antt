-- Believed: the classic capture that is written: the records whose packets passed, with the frames of their chains.
use Rattle.std.specs.Prelude.{ℕ, ◌+◌, ◌-◌, min, List, [], ◌++◌, length}
use Rattle.std.specs.List.{flat_map, zip}
use Rattle.pcap_io.specs.Written.{head_bytes, record_bytes}
use Rattle.capture_bytes.specs.declared.packet.PcapRecord.{PcapRecord}
use Rattle.pcap_io.specs.declared.capture.CaptureHead.{CaptureHead}
use Rattle.chain_walk.specs.declared.walk.Fate.{Fate}
use Rattle.chain_walk.specs.declared.walk.Fate.TheVariants.{Out, Gone}

-- the original length of a frame whose length changed: longer or shorter by as much, limited to 32 bits
abbrev pub wire_after : ℕ → ℕ → ℕ → ℕ
wire_after wire before after = min (wire + after - before) 4294967295

-- a record that goes out with this frame; its original length grows or shrinks with the frame
abbrev pub emitted_record : PcapRecord → List ℕ → PcapRecord
emitted_record r frame = record r { wire = wire_after r.wire (length r.frame) (length frame); frame = frame }

-- its bytes, and nothing for a dropped packet
abbrev pub emitted : (PcapRecord → List ℕ) → PcapRecord → Fate → List ℕ
emitted spelled r (Out frame) = spelled (emitted_record r frame)
emitted spelled r (Gone position) = []

-- the emitted records in the order read
unfoldable pub emitted_all : (PcapRecord → List ℕ) → List PcapRecord → List Fate → List ℕ
emitted_all spelled records fates = flat_map (λ x. emitted spelled x.0 x.1) (zip records fates)

-- a head, and the emitted records
unfoldable pub out_bytes : CaptureHead → List PcapRecord → List Fate → List ℕ
out_bytes head records fates = head_bytes head ++ emitted_all (record_bytes head.order) records fates
