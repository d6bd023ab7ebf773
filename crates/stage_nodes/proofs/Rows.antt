-- Rows worked by hand: a few packets on their way through a stage.
use Rattle.std.proofs.Common.{◌≡◌, List, [], ◌∷◌, refl}
use Rattle.packet_fields.specs.declared.field.Field.{Field}
use Rattle.action_profile.specs.declared.parts.Touch.{Touch}
use Rattle.packet_version.specs.Dealing.{dealt, based}
use Rattle.packet_version.specs.Splitting.{PlainApart}
use Rattle.packet_version.specs.Versions.{PlainVersion}
use Rattle.merge_ops.specs.Merging.{decision_of}
use Rattle.packet_messages.specs.Messages.{PlainMessage, PlainMessage.Live, PlainMessage.Nil, PlainMessage.Short}
use Rattle.stage_nodes.specs.Streams.{Kit, base_of, ran, left, joined, came_from, merged_rows, dealer_copies}

-- a branch takes two versions, and between them the message that a packet was dropped
branch_gives : {F : Type 0} (k : Kit F) (f : F) (v w : PlainVersion) → ran k f (Live v ∷ Nil 2 ∷ Live w ∷ []) ≡ k.gives f v ∷ Nil 2 ∷ k.gives (k.past (k.after f v)) w ∷ []
unfolding ran
branch_gives k f v w = refl

functions_left : {F : Type 0} (k : Kit F) (f : F) (v w : PlainVersion) → left k f (Live v ∷ Nil 2 ∷ Live w ∷ []) ≡ k.after (k.past (k.after f v)) w
unfolding left
functions_left k f v w = refl

-- two branches get one packet
branches_give : {F : Type 0} (k : Kit F) (f g : F) (s t : Touch) (whole : PlainApart) → came_from k (s ∷ t ∷ []) (f ∷ g ∷ []) (Live whole ∷ []) ≡ (k.gives f (dealt whole s) ∷ []) ∷ (k.gives g (dealt whole t) ∷ []) ∷ []
unfolding came_from ran
branches_give k f g s t whole = refl

base_stays : (s t : Touch) (whole : PlainApart) → base_of (s ∷ t ∷ []) (Live whole) ≡ Live (based (s ∷ t ∷ []) whole)
base_stays s t whole = refl

-- both drop it, one runs out of memory, or it was dropped before
dropped_first : (base : PlainApart) → joined (Live base) (Nil 4 ∷ Nil 2 ∷ []) ≡ Nil 2
unfolding decision_of
dropped_first base = refl

dropped_by_one : (base : PlainApart) (v : PlainVersion) → joined (Live base) (Live v ∷ Nil 3 ∷ []) ≡ Nil 3
unfolding decision_of
dropped_by_one base v = refl

short_by_one : (base : PlainApart) → joined (Live base) (Nil 4 ∷ Short ∷ []) ≡ Short
unfolding decision_of
short_by_one base = refl

dropped_before : (row : List (PlainMessage PlainVersion)) → joined (Nil 1) row ≡ Nil 1
dropped_before row = refl

-- two packets, of which the second was dropped before
each_by_its_row : (base : PlainApart) → merged_rows (Live base ∷ Nil 1 ∷ []) ((Nil 5 ∷ Nil 1 ∷ []) ∷ (Nil 3 ∷ Nil 1 ∷ []) ∷ []) ≡ Nil 3 ∷ Nil 1 ∷ []
unfolding merged_rows decision_of
each_by_its_row base = refl

nothing_copied : (touches : List Touch) (f : Field) → dealer_copies touches (Nil 3 ∷ Short ∷ []) f ≡ 0
nothing_copied touches f = refl
