-- For proofs: the shards of workers, and the one list that they are.
use Rattle.std.specs.Prelude.{◌≡◌, ℕ, ◌+◌, ◌%◌, ◌<◌, ◌≤◌, ◌==◌, nat_le, ⊤, All, List, [], ◌∷◌, map, filter, length, Bool, if◌then◌else◌, unwrap_or, fold}
use Rattle.std.specs.List.{flat_map, range_with_len, AllByRecursion, IsDistinct}
use Rattle.std.specs.Map.{keys_of}
use Rattle.classifier.specs.declared.burst.Item.{Item}
use Rattle.flow_line.specs.Versions.{FitsVersion}
use Rattle.flow_line.specs.declared.key.FlowKey.{FlowKey}
use Rattle.flow_line.specs.declared.line.FlowLine.{FlowLine}
use Rattle.packet_function.specs.SameFlow.{is_same_flow}
use Rattle.packet_function.specs.declared.flow.FiveTuple.{FiveTuple}
use Rattle.flow_shards.specs.declared.sight.Sight.{Sight}
use Rattle.flow_shards.specs.Flows.{Lines, counted, key_of}

-- which of this number of workers, counted from 0, has the flow of this key
abbrev pub shard_of : ℕ → FlowKey → ℕ
shard_of workers key = (key.src % 65536 + key.dst % 65536 + unwrap_or key.sport 0 + unwrap_or key.dport 0 + key.proto) % workers

-- a worker has this flow
abbrev pub has_flow : ℕ → ℕ → FiveTuple → Bool
has_flow workers worker flow = shard_of workers (key_of flow) == worker

-- a line is in the worker's shard
abbrev pub in_shard : ℕ → ℕ → FiveTuple × FlowLine → Bool
in_shard workers worker line = has_flow workers worker line.0

-- a line is in the shard of its key's worker
abbrev pub is_in_shard : ℕ → ℕ → FlowLine → Bool
is_in_shard workers worker line = shard_of workers line.key == worker

-- the addresses of a packet's flow have the size of their version of IP
abbrev pub HasFittingFlow : Sight → Type 0
HasFittingFlow s = FitsVersion (key_of s.flow)

-- a line has the key of its flow, and that flow's addresses have their size
pub record IsKeyed (line : FiveTuple × FlowLine) : Type 0 where
  pub key : line.1.key ≡ key_of line.0
  pub fits : FitsVersion (key_of line.0)

-- a packet is in the worker's shard
abbrev pub is_own : ℕ → ℕ → Sight → Bool
is_own workers worker s = has_flow workers worker s.flow

abbrev pub counted_if_own : ℕ → ℕ → Lines → Sight → Lines
counted_if_own workers worker lines s = if is_own workers worker s then counted lines s else lines

-- the shards of these lines
abbrev pub parts : ℕ → Lines → List Lines
parts workers lines = map (λ worker. filter (in_shard workers worker) lines) (range_with_len 0 workers)

-- lines of several shards, one shard after the other
abbrev pub flat : List Lines → Lines
flat tables = flat_map (λ table. table) tables

-- among lines in the order of first sight, one more at its place
abbrev pub placed : FiveTuple × FlowLine → Lines → Lines
placed line [] = line ∷ []
placed line (next ∷ lines) = if nat_le line.1.first next.1.first then line ∷ next ∷ lines else next ∷ placed line lines

-- lines put into the order of first sight
abbrev pub in_order : Lines → Lines
in_order [] = []
in_order (line ∷ lines) = placed line (in_order lines)

-- the shards: the number of workers, the number of the last packet that was fed, and one list of lines
pub record ShardsView : Type 0 where
  pub workers : ℕ
  pub last : ℕ
  pub lines : Lines

abbrev pub no_flows : ℕ → ShardsView
no_flows workers = record { workers = workers; last = 0; lines = [] }

-- the numbers of packets rise, and lie above this one
abbrev pub AreRising : ℕ → List Item → Type 0
AreRising last [] = ⊤
AreRising last (item ∷ items) = (last < item.number) × AreRising item.number items

-- the number of the last packet, if there is one
abbrev pub last_of : ℕ → List Item → ℕ
last_of last items = fold (λ before item. item.number) last items

-- each line was first seen before those after it
abbrev pub IsRising : Lines → Type 0
IsRising [] = ⊤
IsRising (line ∷ lines) = AllByRecursion (λ next. line.1.first < next.1.first) lines × IsRising lines

-- For the proofs alone: lines in the order of first sight, each flow once, none of them first seen after this packet,
-- and at most as many as packets.
pub record AreOrdered (last : ℕ) (lines : Lines) : Type 0 where
  pub rising : IsRising lines
  pub distinct : IsDistinct is_same_flow (keys_of lines)
  pub within : AllByRecursion (λ line. line.1.first ≤ last) lines
  pub few : length lines ≤ last

-- And these are their shards.
pub record AreParted (last : ℕ) (tables : List Lines) : Type 0 where
  pub some : 1 ≤ length tables
  pub few : length tables ≤ 16
  pub parted : tables ≡ parts (length tables) (in_order (flat tables))
  pub ordered : AreOrdered last (in_order (flat tables))
  pub keyed : All IsKeyed (in_order (flat tables))
