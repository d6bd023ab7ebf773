-- Believed: the pcapng capture that is written: its blocks in their order, without those of dropped packets.
use Rattle.std.specs.Prelude.{ℕ, List, [], ◌∷◌}
use Rattle.std.specs.List.{flat_map}
use Rattle.capture_bytes.specs.declared.packet.PcapRecord.{PcapRecord}
use Rattle.pcapng_io.specs.Written.{item_bytes}
use Rattle.pcapng_io.specs.declared.item.NgItem.{NgItem}
use Rattle.pcapng_io.specs.declared.item.NgItem.TheVariants.{Packet, Section, Interface, Carried}
use Rattle.chain_walk.specs.declared.walk.Fate.{Fate}
use Rattle.chain_walk.specs.declared.walk.Fate.TheVariants.{Out, Gone}
use Rattle.capture_run.specs.Emitted.{emitted_record}

-- the records of the packets
abbrev pub records_among : List NgItem → List PcapRecord
records_among [] = []
records_among (Packet p ∷ more) = p.packet ∷ records_among more
records_among (Section block ∷ more) = records_among more
records_among (Interface order block ∷ more) = records_among more
records_among (Carried block ∷ more) = records_among more

-- the items that go out: a packet that passed with its outgoing record, and each other block at its place
abbrev pub emitted_items : List NgItem → List Fate → List NgItem
emitted_items [] fates = []
emitted_items (Section block ∷ more) fates = Section block ∷ emitted_items more fates
emitted_items (Interface order block ∷ more) fates = Interface order block ∷ emitted_items more fates
emitted_items (Carried block ∷ more) fates = Carried block ∷ emitted_items more fates
emitted_items (Packet p ∷ more) [] = []
emitted_items (Packet p ∷ more) (Out frame ∷ fates) = Packet (record p { packet = emitted_record p.packet frame }) ∷ emitted_items more fates
emitted_items (Packet p ∷ more) (Gone position ∷ fates) = emitted_items more fates

-- their bytes, if frames may have grown by this number of bytes
unfoldable pub ng_out_bytes : ℕ → List NgItem → List Fate → List ℕ
ng_out_bytes growth items fates = flat_map (item_bytes growth) (emitted_items items fates)
