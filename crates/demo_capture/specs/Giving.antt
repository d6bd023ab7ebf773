-- For proofs: what is left of the demo's records, and what giving one leaves.
use Rattle.std.specs.Prelude.{◌≡◌, ◌<◌, ◌+◌, ℕ, List, ◌∷◌}
use Rattle.capture_bytes.specs.Packets.{IsShort}
use Rattle.capture_bytes.specs.declared.packet.PcapRecord.{PcapRecord}

-- the number of records that were given, and those that are still to come
pub record DemoLeft : Type 0 where
  pub given : ℕ
  pub records : List PcapRecord

-- a record was given, and those after it are left
pub record GivesNext (r : PcapRecord) (before after : DemoLeft) : Type 0 where
  pub counted : after.given ≡ before.given + 1
  pub few : before.given < 4294967295
  pub short : IsShort r
  pub next : before.records ≡ r ∷ after.records
