-- Rows worked by hand: frames of one and two bytes, in bursts of two packets.
use Rattle.std.proofs.Common.{◌≡◌, ℕ, List, [], ◌∷◌, Option, Some, None, refl, true, false}
use Rattle.capture_bytes.specs.declared.packet.PcapRecord.{PcapRecord}
use Rattle.classifier.specs.declared.burst.Item.{Item}
use Rattle.classifier.specs.Cutting.{bursts_from, captured, is_full, numbered, rest_from}

abbrev packet : List ℕ → PcapRecord
packet frame = record { seconds = 0; fraction = 0; wire = 60; frame = frame }

abbrev item : ℕ → Option ℕ → List ℕ → Item
item n class frame = record { number = n; class = class; packet = packet frame }

-- one that chain 0 takes, one that no chain takes, and another of chain 0
abbrev three : List (PcapRecord × Option ℕ)
three = (packet (1 ∷ []), Some 0) ∷ (packet (2 ∷ 3 ∷ []), None) ∷ (packet (4 ∷ []), Some 0) ∷ []

three_numbered : numbered 1 three ≡ item 1 (Some 0) (1 ∷ []) ∷ item 2 None (2 ∷ 3 ∷ []) ∷ item 3 (Some 0) (4 ∷ []) ∷ []
three_numbered = refl

three_captured : captured (numbered 1 three) ≡ 4
three_captured = refl

first_burst : bursts_from 2 [] (numbered 1 three) ≡ (item 1 (Some 0) (1 ∷ []) ∷ item 2 None (2 ∷ 3 ∷ []) ∷ []) ∷ []
unfolding bursts_from
first_burst = refl

rest_of_three : rest_from 2 [] (numbered 1 three) ≡ item 3 (Some 0) (4 ∷ []) ∷ []
unfolding rest_from
rest_of_three = refl

three_of_three : is_full 3 (numbered 1 three) ≡ true
three_of_three = refl

three_of_four : is_full 4 (numbered 1 three) ≡ false
three_of_four = refl
