-- For proofs: what a capture of any format gives: packets, each with what its format holds beside its record, and other
-- blocks among them.
use Rattle.std.specs.Prelude.{◌≡◌, ◌<◌, ℕ, List, [], ◌∷◌, Option, IfSome}
use Rattle.nfp_outside.specs.Outside.{SlotView}
use Rattle.capture_bytes.specs.Packets.{IsShort}
use Rattle.capture_bytes.specs.declared.packet.PcapRecord.{PcapRecord}
use Rattle.capture_items.specs.declared.fault.FormatFault.{FormatFault}
use Rattle.capture_items.specs.declared.given.Given.{Given}
use Rattle.capture_items.specs.declared.given.Given.TheVariants.{Packet, Block}

-- what a capture gives, and the fault that ends it, if one does
pub record Stream (X B : Type 0) : Type 0 where
  pub given : List (Given X B)
  pub fault : Option FormatFault

-- this before the rest
abbrev pub with_given : {X B : Type 0} → Given X B → Stream X B → Stream X B
with_given x rest = record { given = x ∷ rest.given; fault = rest.fault }

-- the number of packets that this is
abbrev pub count_given : {X B : Type 0} → Given X B → ℕ
count_given (Packet r x) = 1
count_given (Block b) = 0

-- there is a number for it
abbrev pub HasNumber : {X B : Type 0} → Given X B → ℕ → Type 0
HasNumber (Packet r x) before = before < 4294967295
HasNumber (Block b) before = Unit {0}

-- a packet has a frame of an accepted length
abbrev pub IsShortGiven : {X B : Type 0} → Given X B → Type 0
IsShortGiven (Packet r x) = IsShort r
IsShortGiven (Block b) = Unit {0}

-- the records of the packets
abbrev pub records_in : {X B : Type 0} → List (Given X B) → List PcapRecord
records_in [] = []
records_in (Packet r x ∷ more) = r ∷ records_in more
records_in (Block b ∷ more) = records_in more

-- a record as it is spelled with this beside it
abbrev pub spelled_with : {X B : Type 0} → (Given X B → List ℕ) → X → PcapRecord → List ℕ
spelled_with spelled x r = spelled (Packet r x)

-- nothing is left in a slot that is read, if the desk shows it
abbrev pub IsDrained : SlotView → Type 0
IsDrained slot = IfSome slot.bytes (λ bytes. bytes ≡ [])
