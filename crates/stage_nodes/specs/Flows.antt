-- For proofs: packets that may go through stages.
use Rattle.std.specs.Prelude.{◌≡◌, ◌<◌, ◌≤◌, ◌+◌, ℕ, suc, List, [], ◌∷◌, length, map}
use Rattle.action_profile.specs.Modes.{modes_of}
use Rattle.action_profile.specs.declared.parts.Touch.{Touch}
use Rattle.packet_version.specs.Splitting.{PlainApart}
use Rattle.packet_version.specs.Versions.{PlainVersion}
use Rattle.merge_ops.specs.Behind.{AreArrivals}
use Rattle.packet_messages.specs.Messages.{PlainMessage, PlainMessage.Live, PlainMessage.Nil, PlainMessage.Short, first, rest}
use Rattle.stage_nodes.specs.Streams.{Kit, PlainStage, parted, base_of, moved, as_arrival, came_from, passed}

-- a branch may take a message of the packet with this number in the burst, counted from 0
abbrev pub MayTake : {F : Type 0} → (F → ℕ → PlainVersion → Type 0) → F → ℕ → PlainMessage PlainVersion → Type 0
MayTake may f p (Live v) = may f p v
MayTake may f p (Nil q) = Unit {0}
MayTake may f p Short = Unit {0}

-- it may take all these, one after another
unfoldable pub MayTakeAll : {F : Type 0} → Kit F → (F → ℕ → PlainVersion → Type 0) → F → ℕ → List (PlainMessage PlainVersion) → Type 0
MayTakeAll k may f p [] = Unit {0}
MayTakeAll k may f p (x ∷ xs) = MayTake may f p x × MayTakeAll k may (moved k f x) (suc p) xs

-- and these, of which each is the given number of packets after the one before
unfoldable pub MayTakeEach : {F : Type 0} → Kit F → (F → ℕ → PlainVersion → Type 0) → ℕ → F → ℕ → List (PlainMessage PlainVersion) → Type 0
MayTakeEach k may step f p [] = Unit {0}
MayTakeEach k may step f p (x ∷ xs) = MayTake may f p x × MayTakeEach k may step (moved k f x) (p + step) xs

-- so may each branch, with what it gets of these packets
unfoldable pub AllMayTake : {F : Type 0} → Kit F → (F → ℕ → PlainVersion → Type 0) → List Touch → List F → List (PlainMessage PlainApart) → Type 0
AllMayTake k may [] fs xs = Unit {0}
AllMayTake k may (t ∷ touches) [] xs = Unit {0}
AllMayTake k may (t ∷ touches) (f ∷ fs) xs = MayTakeAll k may f 0 (map (parted t) xs) × AllMayTake k may touches fs xs

-- what comes from the branches belongs to what stayed of the packet
abbrev pub Belongs : PlainMessage PlainApart → List (PlainMessage PlainVersion) → Type 0
Belongs (Live base) row = AreArrivals base (map as_arrival row)
Belongs (Nil p) row = Unit {0}
Belongs Short row = Unit {0}

-- for each packet
unfoldable pub AllBelong : List (PlainMessage PlainApart) → List (List (PlainMessage PlainVersion)) → Type 0
AllBelong [] columns = Unit {0}
AllBelong (b ∷ bases) columns = Belongs b (map first columns) × AllBelong bases (map rest columns)

-- These packets may go through a stage.
pub record MayPass {F : Type 0} (k : Kit F) (may : F → ℕ → PlainVersion → Type 0) (s : PlainStage F) (xs : List (PlainMessage PlainApart)) : Type 0 where
  pub modes : s.parts.modes ≡ modes_of s.parts.touches
  pub some : 0 < length s.parts.touches
  pub few : length s.parts.touches ≤ 64
  pub owners : length s.branches ≡ length s.parts.touches
  pub take : AllMayTake k may s.parts.touches s.branches xs
  pub belong : AllBelong (map (base_of s.parts.touches) xs) (came_from k s.parts.touches s.branches xs)

-- and through all these stages
unfoldable pub MayPassAll : {F : Type 0} → Kit F → (F → ℕ → PlainVersion → Type 0) → List (PlainStage F) → List (PlainMessage PlainApart) → Type 0
MayPassAll k may [] xs = Unit {0}
MayPassAll k may (s ∷ stages) xs = MayPass k may s xs × MayPassAll k may stages (passed k s xs)
