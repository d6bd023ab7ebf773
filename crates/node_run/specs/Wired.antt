-- For proofs: how the nodes of a stage are connected.
use Rattle.std.specs.Prelude.{◌≡◌, ◌<◌, ◌≤◌, ◌+◌, ◌++◌, ℕ, Bool, false, List, [], ◌∷◌, length, map, drop, All}
use Rattle.packet_fields.specs.declared.field.Field.{Field}
use Rattle.action_profile.specs.declared.parts.Touch.{Touch}
use Rattle.packet_version.specs.Splitting.{PlainApart}
use Rattle.packet_version.specs.Tallies.{count_of}
use Rattle.packet_version.specs.Versions.{PlainVersion}
use Rattle.packet_messages.specs.Messages.{PlainMessage}
use Rattle.packet_messages.specs.Turns.{share, shares, shares_from, columns, columns_from}
use Rattle.stage_nodes.specs.Dues.{AreFanned, AreShared, DealerDue}
use Rattle.stage_nodes.specs.Streams.{Kit, PlainStage, Edge.Behind, Edge.FromBranch, Edge.ToBranch, came_from, left, merged_rows, parted, stayed, stream}
use Rattle.stage_nodes.specs.Flows.{AllMayTake, AllBelong, MayTakeAll}
use Rattle.node_run.specs.Nodes.{AreNodes, no_copies}
use Rattle.node_run.specs.Edges.{HaveJoined, branch_ends, branches_ends, ends_at, version_ends, versions_ends}
use Rattle.node_run.specs.declared.branches.Branches.{Branches}
use Rattle.node_run.specs.declared.meeting.Meeting.{Meeting}
use Rattle.node_run.specs.declared.wire.WiredStage.{WiredStage}

-- branches with these touches and functions may meet `m` mergers, for this number of packets, which are these
pub record MayMeet {F : Type 0} (touches : List Touch) (fs : List F) (m count : ℕ) (xs : List (PlainMessage PlainApart)) : Type 0 where
  pub branches : (0 < length touches) × (length touches ≤ 64)
  pub owners : length fs ≡ length touches
  pub some : 0 < m
  pub few : count < 65537
  pub many : length xs ≡ count

-- what comes from each branch meets `m` mergers: both the branches' ends and the mergers' have their share of each
pub record Meets (m : ℕ) (rows : List (List (PlainMessage PlainVersion))) (w : Meeting) : Type 0 where
  pub ends : w.ends.items ≡ columns m rows
  pub inlets : w.inlets.items ≡ columns m rows

-- `j` branches of a stage have their links to merger `i` of `m`; those after them are still to get theirs
pub record AreLinked {F : Type 0} (k : Kit F) (touches : List Touch) (fs : List F) (m i : ℕ) (xs : List (PlainMessage PlainApart)) (j : ℕ) (ends : List (List (PlainMessage PlainVersion))) : Type 0 where
  pub many : length ends ≡ j
  pub inside : j ≤ length touches
  pub shared : ends ++ map (share m i) (came_from k (drop j touches) (drop j fs) xs) ≡ map (share m i) (came_from k touches fs xs)

-- one more stream is shared in turn
abbrev pub IsFanned : List (PlainMessage PlainVersion) → List (List (List (PlainMessage PlainVersion))) → List (List (List (PlainMessage PlainVersion))) → Type 0
IsFanned xs old new = (fan : List (List (PlainMessage PlainVersion))) × AreShared fan xs × (new ≡ old ++ fan ∷ [])

-- a branch may be wired to `m` mergers, into these ends, for this number of packets, which are these
pub record MayWire {F : Type 0} (k : Kit F) (may : F → ℕ → PlainVersion → Type 0) (touch : Touch) (f : F) (m count : ℕ) (xs : List (PlainMessage PlainApart)) (given : List (List (PlainMessage PlainVersion))) : Type 0 where
  pub some : 0 < m
  pub few_mergers : m ≤ 16
  pub few : count < 65537
  pub many : length xs ≡ count
  pub take : MayTakeAll k may f 0 (map (parted touch) xs)
  pub ends : given ≡ shares m (stream k xs (FromBranch touch f))

-- one more branch is wired: it gets its part of these packets, and gives back the functions that remain after them
pub record HasWired {F : Type 0} (k : Kit F) (may : F → ℕ → PlainVersion → Type 0) (touch : Touch) (f : F) (m : ℕ) (xs : List (PlainMessage PlainApart)) (old new : Branches F) : Type 0 where
  pub versions : IsFanned (stream k xs (ToBranch touch)) old.versions new.versions
  pub split : Bool
  pub fan : new.versions ≡ old.versions ++ version_ends k m xs split touch ∷ []
  pub joined : HaveJoined (branch_ends k m xs split touch f) old.nodes.items new.nodes.items
  pub nodes : (fs : List F) (c : Field → ℕ) → AreNodes k may old.nodes.items fs c → AreNodes k may new.nodes.items (fs ++ left k f (map (parted touch) xs) ∷ []) c

-- the branches of a stage
pub record AreWired {F : Type 0} (k : Kit F) (may : F → ℕ → PlainVersion → Type 0) (touches : List Touch) (fs : List F) (m : ℕ) (xs : List (PlainMessage PlainApart)) (w : Branches F) : Type 0 where
  pub versions : AreFanned touches xs w.versions
  pub split : List Bool
  pub each : length split ≡ length touches
  pub fans : w.versions ≡ versions_ends k m xs split touches
  pub on : map ends_at w.nodes.items ≡ branches_ends k m xs split touches fs
  pub nodes : AreNodes k may w.nodes.items (stayed k touches fs xs) no_copies

-- `j` branches of a stage; those after them are still to be wired, and these ends to be given to them
pub record AreWiring {F : Type 0} (k : Kit F) (may : F → ℕ → PlainVersion → Type 0) (touches : List Touch) (fs : List F) (m : ℕ) (xs : List (PlainMessage PlainApart)) (j : ℕ) (todo : List F) (given : List (List (List (PlainMessage PlainVersion)))) (w : Branches F) : Type 0 where
  pub many : j + length todo ≡ length touches
  pub versions : (later : List (List (List (PlainMessage PlainVersion)))) → AreFanned (drop j touches) xs later → AreFanned touches xs (w.versions ++ later)
  pub ends : given ≡ columns m (came_from k (drop j touches) todo xs)
  pub take : AllMayTake k may (drop j touches) todo xs
  pub split : List Bool
  pub each : length split ≡ j
  pub fans : (later : List Bool) → w.versions ++ versions_ends k m xs later (drop j touches) ≡ versions_ends k m xs (split ++ later) touches
  pub on : (later : List Bool) → map ends_at w.nodes.items ++ branches_ends k m xs later (drop j touches) todo ≡ branches_ends k m xs (split ++ later) touches fs
  pub functions : List F
  pub nodes : AreNodes k may w.nodes.items functions no_copies
  pub gives : functions ++ stayed k (drop j touches) todo xs ≡ stayed k touches fs xs

-- a stage is wired, to which these packets come
pub record IsWired {F S : Type 0} (k : Kit F) (may : F → ℕ → PlainVersion → Type 0) (comes : S → List (PlainMessage PlainApart) → Type 0) (m count : ℕ) (s : PlainStage F) (xs : List (PlainMessage PlainApart)) (source : S) (w : WiredStage F S) : Type 0 where
  pub source_is : w.dealer.source ≡ source
  pub many : w.dealer.count ≡ count
  pub ample : w.dealer.to.short ≡ false
  pub none : (f : Field) → count_of w.dealer.tally f ≡ 0
  pub touches : w.dealer.parts.touches ≡ s.parts.touches
  pub due : DealerDue comes w.dealer.parts w.dealer.count xs w.dealer.source w.dealer.to.ends.versions w.dealer.to.ends.bases
  pub nodes : AreNodes k may w.nodes.items (stayed k s.parts.touches s.branches xs) no_copies
  pub next : w.next ≡ shares m (stream k xs (Behind s))

-- the ends of `c` mergers, of `m`, from merger `i` on
pub record MergersFit (m i c count : ℕ) (bases : List (List (PlainMessage PlainApart))) (inlets : List (List (List (PlainMessage PlainVersion)))) (outlets : List (List (PlainMessage PlainApart))) : Type 0 where
  pub coming : List (PlainMessage PlainApart)
  pub columns : List (List (PlainMessage PlainVersion))
  pub many : length coming ≡ count
  pub some : 0 < length columns
  pub few : length columns ≤ 64
  pub even : All (λ column. length column ≡ count) columns
  pub belong : AllBelong coming columns
  pub takes : bases ≡ shares_from m i c coming
  pub come : inlets ≡ columns_from m i c columns
  pub gives : outlets ≡ shares_from m i c (merged_rows coming columns)
