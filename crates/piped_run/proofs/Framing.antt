-- The frames of a burst, split one after another: the state so far.
use Rattle.std.proofs.Common.{◌≡◌, ◌∙◌, ◌<◌, ◌≤◌, ◌+◌, ℕ, Bool, true, false, List, [], ◌∷◌, ◌++◌, map, length, drop, get_or, sym, ap, arith, length-append}
use Rattle.std.specs.Prelude.{filter, if◌then◌else◌}
use Rattle.std.proofs.lemmas.List.{drop_more, drop_all}
use Rattle.capture_bytes.specs.declared.packet.Unit.{Unit as TimeUnit}
use Rattle.classifier.specs.declared.burst.Item.{Item}
use Rattle.graph_run.specs.Packets.{is_of, packet_of, packets_taken}

taken_more : (unit : TimeUnit) (chain : ℕ) (item : Item) (items : List Item) (t : Bool) → is_of chain item ≡ t → packets_taken unit chain (item ∷ items) ≡ (if t then packet_of unit item ∷ packets_taken unit chain items else packets_taken unit chain items)
taken_more unit chain item items true is = ap (λ (t : Bool). map (packet_of unit) (if t then item ∷ filter (is_of chain) items else filter (is_of chain) items)) is
taken_more unit chain item items false is = ap (λ (t : Bool). map (packet_of unit) (if t then item ∷ filter (is_of chain) items else filter (is_of chain) items)) is

-- this number of numbers were noted, and those of the packets from item `i` on are still to come
abbrev pub HasNoted : ℕ → List Item → List ℕ → ℕ → Type 0
HasNoted chain items numbers i = (unit : TimeUnit) → length numbers + length (packets_taken unit chain (drop i items)) ≡ length (packets_taken unit chain items)

pub noted_none : (chain : ℕ) (items : List Item) (numbers : List ℕ) → numbers ≡ [] → HasNoted chain items numbers 0
noted_none chain items numbers none unit = ap (λ (l : List ℕ). length l + length (packets_taken unit chain items)) none ∙ omega arith

pub noted_one : (chain : ℕ) (items : List Item) (numbers more : List ℕ) (i n : ℕ) (item : Item) → HasNoted chain items numbers i → i < length items → item ≡ get_or items i item → is_of chain item ≡ true → more ≡ numbers ++ n ∷ [] → HasNoted chain items more (i + 1)
noted_one chain items numbers more i n item has inside is of push unit =
    let row : packets_taken unit chain (drop i items) ≡ packet_of unit item ∷ packets_taken unit chain (drop (i + 1) items) =
    ap (packets_taken unit chain) (drop_more items i item inside ∙ ap (λ (x : Item). x ∷ drop (i + 1) items) (sym is)) ∙ taken_more unit chain item (drop (i + 1) items) true of in
    omega (arith, has unit, ap length row, ap length push, length-append numbers (n ∷ []))

pub noted_other : (chain : ℕ) (items : List Item) (numbers more : List ℕ) (i : ℕ) (item : Item) → HasNoted chain items numbers i → i < length items → item ≡ get_or items i item → is_of chain item ≡ false → more ≡ numbers → HasNoted chain items more (i + 1)
noted_other chain items numbers more i item has inside is of same unit =
    let row : packets_taken unit chain (drop i items) ≡ packets_taken unit chain (drop (i + 1) items) =
    ap (packets_taken unit chain) (drop_more items i item inside ∙ ap (λ (x : Item). x ∷ drop (i + 1) items) (sym is)) ∙ taken_more unit chain item (drop (i + 1) items) false of in
    omega (arith, has unit, ap length row, ap length same)

pub noted_all : (chain : ℕ) (items : List Item) (numbers : List ℕ) (i : ℕ) → HasNoted chain items numbers i → length items ≤ i → (unit : TimeUnit) → length numbers ≡ length (packets_taken unit chain items)
noted_all chain items numbers i has past unit =
    let none : length (packets_taken unit chain (drop i items)) ≡ 0 = ap (λ (l : List Item). length (packets_taken unit chain l)) (drop_all i items past) in
    omega (arith, has unit, none)
