-- For proofs: the messages that are due on each edge of a run (`stream`), as lists of plain data. A run is some stages,
-- one after another. In each a dealer passes every packet to the branches, each branch takes its versions in the
-- packets' order, and the results are merged packet by packet. Each stage gets the packets after the one before.
use Rattle.std.specs.Prelude.{◌≡◌, ℕ, ◌+◌, List, [], ◌∷◌, map}
use Rattle.std.specs.List.{sum_by}
use Rattle.packet_fields.specs.declared.field.Field.{Field}
use Rattle.action_profile.specs.declared.parts.StageParts.{StageParts}
use Rattle.action_profile.specs.declared.parts.Touch.{Touch}
use Rattle.packet_version.specs.Splitting.{PlainApart, packet_parts}
use Rattle.packet_version.specs.Versions.{PlainVersion}
use Rattle.packet_version.specs.Dealing.{dealt, based, copies_due}
use Rattle.merge_ops.specs.Taking.{merged}
use Rattle.merge_ops.specs.declared.arrival.Arrival.{Arrival}
use Rattle.merge_ops.specs.declared.arrival.Arrival.TheVariants as came
use Rattle.merge_ops.specs.declared.merging.Merged.{Merged}
use Rattle.merge_ops.specs.declared.merging.Merged.TheVariants as ends
use Rattle.packet_messages.specs.Messages.{PlainMessage, PlainMessage.Live, PlainMessage.Nil, PlainMessage.Short, first, rest}

-- What the functions of a branch make of a version, and the functions after it, and after a packet that was dropped.
pub record Kit (F : Type 0) : Type 0 where
  pub gives : F → PlainVersion → PlainMessage PlainVersion
  pub after : F → PlainVersion → F
  pub past : F → F

-- such functions are the same after each packet as before it
abbrev pub KeepsNothing : {F : Type 0} → Kit F → F → Type 0
KeepsNothing k f = ((v : PlainVersion) → k.after f v ≡ f) × (k.past f ≡ f)

-- The functions of a stage's branches, and what each branch gets of a packet.
pub record PlainStage (F : Type 0) : Type 0 where
  pub parts : StageParts
  pub branches : List F

-- what a dealer gives a branch with this touch: its version of the packet; a message without a packet is passed on
abbrev pub parted : Touch → PlainMessage PlainApart → PlainMessage PlainVersion
parted touch (Live whole) = Live (dealt whole touch)
parted touch (Nil p) = Nil p
parted touch Short = Short

-- and what it gives a merger: what stays of the packet
abbrev pub base_of : List Touch → PlainMessage PlainApart → PlainMessage PlainApart
base_of touches (Live whole) = Live (based touches whole)
base_of touches (Nil p) = Nil p
base_of touches Short = Short

-- a branch's answer to a message, and its functions after it
abbrev pub gave : {F : Type 0} → Kit F → F → PlainMessage PlainVersion → PlainMessage PlainVersion
gave k f (Live v) = k.gives f v
gave k f (Nil p) = Nil p
gave k f Short = Short

abbrev pub moved : {F : Type 0} → Kit F → F → PlainMessage PlainVersion → F
moved k f (Live v) = k.after f v
moved k f (Nil p) = k.past f
moved k f Short = f

-- from a branch, and its functions at the end
unfoldable pub ran : {F : Type 0} → Kit F → F → List (PlainMessage PlainVersion) → List (PlainMessage PlainVersion)
ran k f [] = []
ran k f (x ∷ xs) = gave k f x ∷ ran k (moved k f x) xs

unfoldable pub left : {F : Type 0} → Kit F → F → List (PlainMessage PlainVersion) → F
left k f [] = f
left k f (x ∷ xs) = left k (moved k f x) xs

-- a message from a branch as its result, and the result for a packet as a message
abbrev pub as_arrival : PlainMessage PlainVersion → Arrival
as_arrival (Live v) = came.Version v
as_arrival (Nil p) = came.Nil p
as_arrival Short = came.Short

abbrev pub of_merged : Merged → PlainMessage PlainApart
of_merged (ends.Whole whole) = Live whole
of_merged (ends.Gone p) = Nil p
of_merged ends.Short = Short

abbrev pub as_merged : PlainMessage PlainApart → Merged
as_merged (Live whole) = ends.Whole whole
as_merged (Nil p) = ends.Gone p
as_merged Short = ends.Short

-- what a merger makes of what stayed of a packet and of the branches' results, in branch order
abbrev pub joined : PlainMessage PlainApart → List (PlainMessage PlainVersion) → PlainMessage PlainApart
joined (Live base) row = of_merged (merged base (map as_arrival row))
joined (Nil p) row = Nil p
joined Short row = Short

-- from each branch of a stage, and its functions at the end
unfoldable pub came_from : {F : Type 0} → Kit F → List Touch → List F → List (PlainMessage PlainApart) → List (List (PlainMessage PlainVersion))
came_from k [] fs xs = []
came_from k (t ∷ touches) [] xs = []
came_from k (t ∷ touches) (f ∷ fs) xs = ran k f (map (parted t) xs) ∷ came_from k touches fs xs

unfoldable pub stayed : {F : Type 0} → Kit F → List Touch → List F → List (PlainMessage PlainApart) → List F
stayed k [] fs xs = []
stayed k (t ∷ touches) [] xs = []
stayed k (t ∷ touches) (f ∷ fs) xs = left k f (map (parted t) xs) ∷ stayed k touches fs xs

-- from mergers that take these bases and the branches' results, one list for each
unfoldable pub merged_rows : List (PlainMessage PlainApart) → List (List (PlainMessage PlainVersion)) → List (PlainMessage PlainApart)
merged_rows [] columns = []
merged_rows (b ∷ bases) columns = joined b (map first columns) ∷ merged_rows bases (map rest columns)

-- An edge of a stage: from its dealer to a branch with this touch; from its dealer to its mergers; from a branch with
-- this touch and these functions to its mergers; and from its mergers to the next dealer, or to the collector after the
-- last.
pub data Edge (F : Type 0) : Type 0 where
  ToBranch : (touch : Touch) → Edge F
  ToMergers : (touches : List Touch) → Edge F
  FromBranch : (touch : Touch) (functions : F) → Edge F
  Behind : (stage : PlainStage F) → Edge F

-- what its messages carry of a packet
abbrev pub Carried : {F : Type 0} → Edge F → Type 0
Carried (ToBranch touch) = PlainVersion
Carried (ToMergers touches) = PlainApart
Carried (FromBranch touch f) = PlainVersion
Carried (Behind s) = PlainApart

-- the messages that are due on it, for these packets, which come to the stage
abbrev pub stream : {F : Type 0} → Kit F → List (PlainMessage PlainApart) → (e : Edge F) → List (PlainMessage (Carried e))
stream k xs (ToBranch touch) = map (parted touch) xs
stream k xs (ToMergers touches) = map (base_of touches) xs
stream k xs (FromBranch touch f) = ran k f (map (parted touch) xs)
stream k xs (Behind s) = merged_rows (map (base_of s.parts.touches) xs) (came_from k s.parts.touches s.branches xs)

-- after a stage
abbrev pub passed : {F : Type 0} → Kit F → PlainStage F → List (PlainMessage PlainApart) → List (PlainMessage PlainApart)
passed k s xs = stream k xs (Behind s)

-- after all stages, and the functions of each stage at the end
unfoldable pub through : {F : Type 0} → Kit F → List (PlainStage F) → List (PlainMessage PlainApart) → List (PlainMessage PlainApart)
through k [] xs = xs
through k (s ∷ stages) xs = through k stages (passed k s xs)

unfoldable pub ends_of : {F : Type 0} → Kit F → List (PlainStage F) → List (PlainMessage PlainApart) → List (List F)
ends_of k [] xs = []
ends_of k (s ∷ stages) xs = stayed k s.parts.touches s.branches xs ∷ ends_of k stages (passed k s xs)

-- the copies of a field that a dealer makes for a message's packet, for all that come, and those of all dealers
abbrev pub due_of : List Touch → Field → PlainMessage PlainApart → ℕ
due_of touches f (Live whole) = copies_due touches f (packet_parts whole f)
due_of touches f (Nil p) = 0
due_of touches f Short = 0

abbrev pub dealer_copies : List Touch → List (PlainMessage PlainApart) → Field → ℕ
dealer_copies touches xs f = sum_by (due_of touches f) xs

unfoldable pub copies_along : {F : Type 0} → Kit F → List (PlainStage F) → List (PlainMessage PlainApart) → Field → ℕ
copies_along k [] xs f = 0
copies_along k (s ∷ stages) xs f = dealer_copies s.parts.touches xs f + copies_along k stages (passed k s xs) f
