-- For proofs: packets, numbered from 1 in their order, cut into bursts.
use Rattle.std.specs.Prelude.{ℕ, ◌≡◌, ◌+◌, List, [], ◌∷◌, ◌++◌, Bool, true, false, ◌||◌, Option, All, length, nat_le, if◌then◌else◌}
use Rattle.std.specs.List.{sum_by}
use Rattle.capture_bytes.specs.declared.packet.PcapRecord.{PcapRecord}
use Rattle.classifier.specs.declared.burst.Item.{Item}

-- the bytes that were captured of these packets
abbrev pub captured : List Item → ℕ
captured items = sum_by (λ i. length i.packet.frame) items

-- a burst is full with the set number of packets, or with 67,108,864 captured bytes
abbrev pub is_full : ℕ → List Item → Bool
is_full limit items = nat_le limit (length items) || nat_le 67108864 (captured items)

-- a cutter: the number of packets in a burst, the number of packets added, and those of the open burst
pub record Cutting : Type 0 where
  pub limit : ℕ
  pub added : ℕ
  pub held : List Item

-- the open burst with one more packet, under the next number
abbrev pub with_packet : Cutting → PcapRecord → Option ℕ → List Item
with_packet c packet class = c.held ++ record { number = c.added + 1; class = class; packet = packet } ∷ []

-- whether this packet closes the burst
abbrev pub closes : Cutting → PcapRecord → Option ℕ → Bool
closes c packet class = is_full c.limit (with_packet c packet class)

abbrev pub after : Cutting → PcapRecord → Option ℕ → Cutting
after c packet class =
    if closes c packet class
    then record { limit = c.limit; added = c.added + 1; held = [] }
    else record { limit = c.limit; added = c.added + 1; held = with_packet c packet class }

-- the same cutter with no packet in its open burst
abbrev pub closed_now : Cutting → Cutting
closed_now c = record { limit = c.limit; added = c.added; held = [] }

-- packets and their classes, numbered from here
abbrev pub numbered : ℕ → List (PcapRecord × Option ℕ) → List Item
numbered n [] = []
numbered n (p ∷ ps) = record { number = n; class = p.1; packet = p.0 } ∷ numbered (n + 1) ps

-- the packet and its class, without the number
abbrev pub unnumbered : Item → PcapRecord × Option ℕ
unnumbered i = (i.packet, i.class)

-- the bursts of these packets, if some are held already: each is closed by the first packet that makes it full
unfoldable pub bursts_from : ℕ → List Item → List Item → List (List Item)
bursts_from limit held [] = []
bursts_from limit held (i ∷ items) =
    if is_full limit (held ++ i ∷ [])
    then (held ++ i ∷ []) ∷ bursts_from limit [] items
    else bursts_from limit (held ++ i ∷ []) items

-- and the packets of the burst that is open at the end
unfoldable pub rest_from : ℕ → List Item → List Item → List Item
rest_from limit held [] = held
rest_from limit held (i ∷ items) =
    if is_full limit (held ++ i ∷ [])
    then rest_from limit [] items
    else rest_from limit (held ++ i ∷ []) items

-- bursts one after another
abbrev pub in_a_row : List (List Item) → List Item
in_a_row [] = []
in_a_row (b ∷ bs) = b ++ in_a_row bs

-- the last of its packets closed it: it is full, and was not without it
abbrev pub IsClosedByLast : ℕ → List Item → Type 0
IsClosedByLast limit burst = (front : List Item) × (last : Item) × (burst ≡ front ++ last ∷ []) × (is_full limit front ≡ false) × (is_full limit burst ≡ true)

-- a way to cut packets: bursts and an open one that joined are the packets, if each burst was closed by its last packet
-- and the open one isn't full
pub record IsCut (limit : ℕ) (items : List Item) (bursts : List (List Item)) (rest : List Item) : Type 0 where
  pub row : in_a_row bursts ++ rest ≡ items
  pub closed : All (IsClosedByLast limit) bursts
  pub not_full : is_full limit rest ≡ false
