-- Packets that go on after a piece.
use Rattle.std.proofs.Common.{◌≡◌, ◌∙◌, ◌++◌, ◌+◌, ◌*◌, ℕ, List, [], ◌∷◌, length, take, drop, ap, sym, arith}
use Rattle.std.specs.Prelude.{Some, OnOk, Result, Ok, Err}
use Rattle.std.proofs.lemmas.List.{append-nil, drop_all, take_all}
use Rattle.capture_bytes.specs.Packets.{time_of}
use Rattle.capture_bytes.specs.declared.packet.PcapRecord.{PcapRecord}
use Rattle.capture_bytes.specs.declared.packet.Unit.{Unit as TimeUnit}
use Rattle.capture_bytes.specs.declared.packet.Unit.TheVariants.{Micro, Nano}
use Rattle.chain_walk.specs.declared.walk.Fate.{Fate}
use Rattle.chain_walk.specs.declared.walk.Fate.TheVariants.{Out}
use Rattle.classifier.specs.declared.burst.Item.{Item}
use Rattle.graph_run.specs.Packets.{packet_of, packets_taken}
use Rattle.piece_walk.specs.Rejoining.{still_going}
use Rattle.segment_run.proofs.Rejoining.{adds_out}

-- a packet's time is known by its seconds and its fraction
same_time : (unit : TimeUnit) (old made : PcapRecord) → made.seconds ≡ old.seconds → made.fraction ≡ old.fraction → time_of unit made ≡ time_of unit old
same_time Micro old made seconds fraction = λ i. seconds i * 1000000000 + fraction i * 1000
same_time Nano old made seconds fraction = λ i. seconds i * 1000000000 + fraction i

-- a packet that is copied keeps its time
packet_copied : (unit : TimeUnit) (item made : Item) (frame : List ℕ) → made.packet.seconds ≡ item.packet.seconds → made.packet.fraction ≡ item.packet.fraction → made.packet.frame ≡ frame →
    packet_of unit made ≡ record { time = time_of unit item.packet; frame = frame }
packet_copied unit item made frame seconds fraction same =
    let time = same_time unit item.packet made.packet seconds fraction in
    λ i. record { time = time i; frame = same i }

-- an item that goes on with its frame is chosen
pub adds_copy : (unit : TimeUnit) (chain : ℕ) (chosen chosen' : List Item) (item made : Item) (fate : Fate) (frame : List ℕ) → chosen' ≡ chosen ++ made ∷ [] → made.class ≡ Some chain →
    made.packet.seconds ≡ item.packet.seconds → made.packet.fraction ≡ item.packet.fraction → made.packet.frame ≡ frame → fate ≡ Out frame →
    packets_taken unit chain chosen' ≡ packets_taken unit chain chosen ++ still_going (packet_of unit item ∷ []) (fate ∷ [])
adds_copy unit chain chosen chosen' item made fate frame push class seconds fraction same out =
    adds_out unit chain chosen chosen' item made frame push class (packet_copied unit item made frame seconds fraction same)
    ∙ ap (λ (f : Fate). packets_taken unit chain chosen ++ still_going (packet_of unit item ∷ []) (f ∷ [])) (sym out)

-- bytes that were overwritten whole
pub written_over : (result written items : List ℕ) (n : ℕ) → result ≡ take n (written ++ drop (length written) items) → n ≡ length items → length written ≡ length items → result ≡ written
written_over result written items n is whole as_long =
    is ∙ ap (λ t. take n (written ++ t)) (drop_all (length written) items (omega arith)) ∙ ap (take n) (append-nil written) ∙ take_all n written (omega arith)

-- what follows from a fact that holds if a call succeeds
pub on_ok_too : {T E P Q : Type 0} (r : Result T E) → (P → Q) → OnOk r P → OnOk r Q
on_ok_too (Ok x) more p = more p
on_ok_too (Err e) more p = tt
