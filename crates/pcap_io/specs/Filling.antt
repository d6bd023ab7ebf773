-- For proofs: how reading up to a number of bytes is refused, and when a capture ends within them.
use Rattle.std.specs.Prelude.{◌≡◌, ◌<◌, ℕ, length, IfSome}
use Rattle.nfp_outside.specs.declared.slot.Slot.TheVariants.{Capture as CaptureSlot}
use Rattle.nfp_outside.specs.Outside.{SlotView, TakesFront, IsRisen}
use Rattle.pcap_io.specs.declared.fault.PcapFault.{PcapFault}
use Rattle.pcap_io.specs.declared.fault.PcapFault.TheVariants.{Capture, ReadFault, OutOfMemory}

-- what a refused read returns and leaves
abbrev pub IsCause : PcapFault → ℕ → ℕ → Type 0
IsCause (Capture fault) before now = ⊥
IsCause (ReadFault slot) before now = (slot ≡ CaptureSlot) × IsRisen before now
IsCause OutOfMemory before now = Unit {0}

pub record IsRefusal (most : ℕ) (old new : SlotView) (fault : PcapFault) : Type 0 where
  pub taken : TakesFront most old new
  pub cause : IsCause fault old.faults new.faults

-- fewer bytes than this remained, and they were taken
pub record EndsWithin (most : ℕ) (old new : SlotView) : Type 0 where
  pub taken : TakesFront most old new
  pub short : IfSome old.bytes (λ bytes. length bytes < most)
