-- For proofs: what a run gives.
use Rattle.std.specs.Prelude.{◌≡◌, ◌≤◌, ◌+◌, ◌++◌, ℕ, List, [], ◌∷◌, length, map, All, false}
use Rattle.packet_fields.specs.declared.field.Field.{Field}
use Rattle.packet_version.specs.Splitting.{PlainApart}
use Rattle.packet_version.specs.Tallies.{count_of, raised}
use Rattle.packet_version.specs.Versions.{PlainVersion}
use Rattle.chain_walk.specs.declared.walk.Fate.{Fate}
use Rattle.merge_ops.specs.Fates.{fate_behind}
use Rattle.packet_messages.specs.Messages.{PlainMessage, is_short}
use Rattle.stage_nodes.specs.Streams.{Kit, PlainStage, as_merged, through, ends_of, copies_along}
use Rattle.stage_nodes.specs.Flows.{MayPassAll}
use Rattle.stage_nodes.specs.Dues.{ComesFrom}
use Rattle.node_run.specs.Firsts.{IsFirst}
use Rattle.node_run.specs.Nodes.{AreNodes, copies_by_all, gather, is_ready}
use Rattle.node_run.specs.declared.first.First.{First}
use Rattle.node_run.specs.declared.node.Node.{Node}

-- the lists, one after another
unfoldable pub flat : {A : Type 0} → List (List A) → List A
flat [] = []
flat (x ∷ xs) = x ++ flat xs

-- there was memory for the packet
abbrev pub is_found : PlainMessage PlainApart → Type 0
is_found packet = is_short packet ≡ false

-- their fates after the last stage
abbrev pub fates_behind : List (PlainMessage PlainApart) → List Fate
fates_behind packets = map fate_behind (map as_merged packets)

-- `n` packets are still to be collected; these are all, and these the fates of the others
pub record Collects {S : Type 0} (comes : S → List (PlainMessage PlainApart) → Type 0) (n room : ℕ) (fates : List Fate) (source : S) (all : List (PlainMessage PlainApart)) : Type 0 where
  pub came : List (PlainMessage PlainApart)
  pub coming : List (PlainMessage PlainApart)
  pub many : length coming ≡ n
  pub fits : length fates + n ≤ room
  pub takes : comes source coming
  pub so_far : came ++ coming ≡ all
  pub told : fates ≡ fates_behind came
  pub found : All is_found came

-- Some stages are laid; these are still to be laid, and this number of packets come from the source to the next. After
-- the last these packets come, and these functions are left and this number of copies is made.
pub record AreLaid {F : Type 0} (k : Kit F) (may : F → ℕ → PlainVersion → Type 0) (count : ℕ) (packets : List (PlainMessage PlainApart)) (functions : List F) (copies : Field → ℕ) (todo : List (PlainStage F)) (source : List (List (PlainMessage PlainApart))) (laid : List (Node F)) : Type 0 where
  pub coming : List (PlainMessage PlainApart)
  pub long : length coming ≡ count
  pub takes : ComesFrom source coming
  pub pass : MayPassAll k may todo coming
  pub comes : through k todo coming ≡ packets
  pub kept : List F
  pub made : Field → ℕ
  pub nodes : AreNodes k may laid kept made
  pub gives : kept ++ flat (ends_of k todo coming) ≡ functions
  pub counted : (f : Field) → made f + copies_along k todo coming f ≡ copies f

-- All stages are laid: this number of packets, which are these, come from the source after the last.
pub record IsLaid {F : Type 0} (k : Kit F) (may : F → ℕ → PlainVersion → Type 0) (count : ℕ) (packets : List (PlainMessage PlainApart)) (functions : List F) (copies : Field → ℕ) (source : List (List (PlainMessage PlainApart))) (laid : List (Node F)) : Type 0 where
  pub long : length packets ≡ count
  pub takes : ComesFrom source packets
  pub nodes : AreNodes k may laid functions copies

-- crews are started, except for these
pub record AreStarted {N S : Type 0} (crew_of : S → N) (ready : N → Type 0) (room : ℕ) (all todo : List N) (started : List S) : Type 0 where
  pub rest : map crew_of started ++ todo ≡ all
  pub ready_rest : All ready todo
  pub fits : length started + length todo ≤ room

-- the first dealer may deal, nodes are ready to run, and what comes after the last can be collected
pub record MayRun {F S : Type 0} (k : Kit F) (may : F → ℕ → PlainVersion → Type 0) (comes : S → List (PlainMessage PlainApart) → Type 0) (copies : Field → ℕ) (first : First S) (nodes : List (Node F)) (count : ℕ) (behind : List (List (PlainMessage PlainApart))) (due : List (PlainMessage PlainApart)) : Type 0 where
  pub deals : IsFirst comes copies first
  pub ready : All (is_ready k may) nodes
  pub long : length due ≡ count
  pub takes : ComesFrom behind due

-- the first dealer may deal, crews are ready to be started, with room for as many handles, and what comes after the
-- last can be collected
pub record CanRun {F S H : Type 0} (k : Kit F) (may : F → ℕ → PlainVersion → Type 0) (comes : S → List (PlainMessage PlainApart) → Type 0) (copies : Field → ℕ) (first : First S) (crews : List (List (Node F))) (started : List H) (room count : ℕ) (behind : List (List (PlainMessage PlainApart))) (due : List (PlainMessage PlainApart)) : Type 0 where
  pub deals : IsFirst comes copies first
  pub ready : All (All (is_ready k may)) crews
  pub empty : started ≡ []
  pub fits : length crews ≤ room
  pub long : length due ≡ count
  pub takes : ComesFrom behind due

-- the result of a run of these nodes, if this was due after the last stage and the first dealer made this many copies
pub record HasRun {F : Type 0} (k : Kit F) (copies : Field → ℕ) (nodes : List (Node F)) (due : List (PlainMessage PlainApart)) (functions : List F) (fates : List Fate) (tally : List ℕ) : Type 0 where
  pub gives : functions ≡ gather k nodes
  pub told : fates ≡ fates_behind due
  pub found : All is_found due
  pub counted : (f : Field) → count_of tally f ≡ raised 0 (copies f + copies_by_all f nodes)

-- what the nodes of these stages made of these packets: the remaining functions, the packets' fates, and the copies
pub record HasLed {F : Type 0} (k : Kit F) (stages : List (PlainStage F)) (xs : List (PlainMessage PlainApart)) (functions : List F) (fates : List Fate) (tally : List ℕ) : Type 0 where
  pub gives : functions ≡ flat (ends_of k stages xs)
  pub told : fates ≡ fates_behind (through k stages xs)
  pub found : All is_found (through k stages xs)
  pub counted : (f : Field) → count_of tally f ≡ raised 0 (copies_along k stages xs f)
