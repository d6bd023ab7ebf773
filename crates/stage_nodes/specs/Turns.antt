-- For proofs: a node before and after one packet.
use Rattle.std.specs.Prelude.{◌≡◌, ◌≤◌, ◌+◌, ◌*◌, ℕ, zero, suc, List, [], ◌∷◌, length, map, All, Bool, false, if◌then◌else◌, Option, Some, None, is_none}
use Rattle.std.specs.List.{list_any}
use Rattle.packet_fields.specs.declared.field.Field.{Field}
use Rattle.action_profile.specs.declared.parts.StageParts.{StageParts}
use Rattle.action_profile.specs.declared.parts.Touch.{Touch}
use Rattle.packet_version.specs.Splitting.{PlainApart}
use Rattle.packet_version.specs.Versions.{PlainVersion}
use Rattle.packet_version.specs.Dealing.{dealt, based}
use Rattle.packet_version.specs.Tallies.{count_of, raised}
use Rattle.merge_ops.specs.declared.arrival.Arrival.{Arrival}
use Rattle.merge_ops.specs.Behind.{AreArrivals}
use Rattle.merge_ops.specs.Merging.{is_short as is_lost_arrival}
use Rattle.merge_ops.specs.Taking.{merged}
use Rattle.packet_messages.specs.Messages.{PlainMessage, PlainMessage.Live, PlainMessage.Nil, PlainMessage.Short, Fits, first, front, plain, word}
use Rattle.stage_nodes.specs.Streams.{Kit, of_merged, due_of, dealer_copies}
use Rattle.stage_nodes.specs.Dues.{DealerDue, BranchDue, MergerDue}
use Rattle.stage_nodes.specs.declared.branch.Branch as branches
use Rattle.stage_nodes.specs.declared.dealer.Dealer as dealers
use Rattle.stage_nodes.specs.declared.merger.Merger as mergers
use Rattle.stage_nodes.specs.declared.given.Given.{Given}
use Rattle.stage_nodes.specs.declared.given.Given.TheVariants.{Row, Word}

-- The packets of a burst that a node takes, by their numbers, counted from 0: this number of them, the packet `first`
-- and each other `step` places after the one before.
unfoldable pub places : ℕ → ℕ → ℕ → List ℕ
places first step zero = []
places first step (suc count) = first ∷ places (first + step) step count

-- something is still to come from a dealer's supply
abbrev pub HasMore : {S : Type 0} → (S → List (PlainMessage PlainApart) → Type 0) → S → Type 0
HasMore comes source = (x : PlainMessage PlainApart) × (xs : List (PlainMessage PlainApart)) × comes source (x ∷ xs)

-- the links of a node fit, and something is still to come
abbrev pub DealerReady : {S : Type 0} → (S → List (PlainMessage PlainApart) → Type 0) → StageParts → S → List (List (List (PlainMessage PlainVersion))) → List (List (PlainMessage PlainApart)) → Type 0
DealerReady comes parts source versions bases = (n : ℕ) × (xs : List (PlainMessage PlainApart)) × DealerDue comes parts (suc n) xs source versions bases

abbrev pub BranchReady : {F : Type 0} → Kit F → (F → ℕ → PlainVersion → Type 0) → ℕ → ℕ → Bool → F → List (PlainMessage PlainVersion) → List (List (PlainMessage PlainVersion)) → Type 0
BranchReady {F} k may step p short f inlet outlets = (n : ℕ) × (end : F) × BranchDue k may step p (suc n) end short f inlet outlets

-- the counts rise by the copies that are due for a message's packet
abbrev pub RaisesByMessage : List Touch → PlainMessage PlainApart → List ℕ → List ℕ → Type 0
RaisesByMessage touches x old new = (f : Field) → count_of new f ≡ raised (count_of old f) (due_of touches f x)

-- a dealer gives a message in place of a packet: dropped if it was dropped, else out of memory
abbrev pub Stops : List Touch → PlainMessage PlainApart → Bool → List ℕ → List ℕ → Option ℕ → Type 0
Stops touches x short old new (Some position) = (short ≡ false) × (x ≡ Nil position) × RaisesByMessage touches x old new
Stops touches x short old new None = Unit {0}

-- the packet of a message went to branches with these touches
pub record Splits (touches : List Touch) (x : PlainMessage PlainApart) (old new : List ℕ) (base : PlainApart) (row : List (PlainMessage PlainVersion)) : Type 0 where
  pub whole : PlainApart
  pub live : x ≡ Live whole
  pub stays : base ≡ based touches whole
  pub given : row ≡ map (λ v. Live v) (map (dealt whole) touches)
  pub counted : RaisesByMessage touches x old new

-- what a dealer gives for the packet of a message
abbrev pub Deals : List Touch → PlainMessage PlainApart → Bool → List ℕ → List ℕ → Given → Type 0
Deals touches x short old new (Row base row) = (short ≡ false) × Splits touches x old new base.value (map plain row.items)
Deals touches x short old new (Word position) = Stops touches x short old new position

-- these parts in boxes, or the message that memory is short
abbrev pub IsBoxed : PlainApart → List PlainVersion → Given → Type 0
IsBoxed base versions (Row b row) = (b.value ≡ base) × (map plain row.items ≡ map (λ v. Live v) versions)
IsBoxed base versions (Word None) = Unit {0}
IsBoxed base versions (Word (Some position)) = ⊥

-- it is the message that memory is short
abbrev pub is_lost : Given → Bool
is_lost (Row base row) = false
is_lost (Word position) = is_none position

-- it is what is due to the branches and to the merger whose turn it is, or fits that
abbrev pub GivenFits : List (List (List (PlainMessage PlainVersion))) → List (List (PlainMessage PlainApart)) → Given → Type 0
GivenFits versions bases (Row base row) = (map plain row.items ≡ map (λ fan. first (front fan)) versions) × Fits (first (front bases)) (Live base.value)
GivenFits versions bases (Word position) = All (λ fan. Fits (first (front fan)) (word position)) versions × Fits (first (front bases)) (word position)

-- This number of a dealer's packets are still to come. With their due copies its counts get to these, unless it is
-- short.
pub record DealerAt {S : Type 0} (comes : S → List (PlainMessage PlainApart) → Type 0) (parts : StageParts) (n : ℕ) (total : Field → ℕ) (short : Bool) (counts : List ℕ) (source : S) (versions : List (List (List (PlainMessage PlainVersion)))) (bases : List (List (PlainMessage PlainApart))) : Type 0 where
  pub coming : List (PlainMessage PlainApart)
  pub due : DealerDue comes parts n coming source versions bases
  pub counted : short ≡ false → (f : Field) → raised (count_of counts f) (dealer_copies parts.touches coming f) ≡ total f

-- what came from the branches belongs to a base
abbrev pub BelongTo : PlainMessage PlainApart → List Arrival → Type 0
BelongTo (Live base) row = AreArrivals base row
BelongTo (Nil p) row = Unit {0}
BelongTo Short row = Unit {0}

-- what becomes of a base and of the branches' results, each of which may be out of memory
abbrev pub joined_row : PlainMessage PlainApart → List Arrival → PlainMessage PlainApart
joined_row (Live base) row = of_merged (merged base row)
joined_row (Nil p) row = if list_any is_lost_arrival row then Short else Nil p
joined_row Short row = Short

-- This number of a merger's packets are still to come, unless it is short: then this number of messages are due.
pub record MergerAt (n : ℕ) (short : Bool) (bases : List (PlainMessage PlainApart)) (columns : List (List (PlainMessage PlainVersion))) (outlet : List (PlainMessage PlainApart)) : Type 0 where
  pub many : length outlet ≡ n
  pub due : short ≡ false → MergerDue n bases columns outlet

-- what is due from a node, whether or not some of its turns are over: a dealer's counts get to these in the end, and a
-- branch's functions are these
abbrev pub DealerOwes : {S : Type 0} → (S → List (PlainMessage PlainApart) → Type 0) → (Field → ℕ) → dealers.Dealer S → Type 0
DealerOwes comes total d = DealerAt comes d.parts d.count total d.to.short d.tally d.source d.to.ends.versions d.to.ends.bases

abbrev pub BranchOwes : {F : Type 0} → Kit F → (F → ℕ → PlainVersion → Type 0) → F → branches.Branch F → Type 0
BranchOwes k may end b = BranchDue k may b.step b.first b.count end b.to.short b.work b.inlet b.to.ends

abbrev pub MergerOwes : mergers.Merger → Type 0
MergerOwes m = MergerAt m.count m.to.short m.base m.inlets m.to.ends × (m.row.items ≡ []) × (m.first + m.count * m.step ≤ 4294967295)
