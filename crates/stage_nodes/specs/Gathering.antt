-- For proofs: how a packet gets to a merger: to its table from one branch after another, or from a board all at once.
use Rattle.std.specs.Prelude.{◌≡◌, ◌<◌, ◌≤◌, ◌-◌, ◌++◌, ◌⊎◌, ℕ, List, [], ◌∷◌, length, map, Option, Some}
use Rattle.acc_table.specs.Arrivals.{Table, arrivals, nothing, IsOpen}
use Rattle.packet_version.specs.Versions.{PlainVersion}
use Rattle.merge_ops.specs.declared.arrival.Arrival.{Arrival}
use Rattle.merge_ops.specs.declared.arrival.Arrival.TheVariants.{Short}
use Rattle.packet_messages.specs.Messages.{PlainMessage}
use Rattle.stage_nodes.specs.Streams.{as_arrival}

-- these have arrived, and of this number of branches nothing yet
abbrev pub partly : {T : Type 0} → List T → ℕ → List (Option T)
partly come missing = map (λ a. Some a) come ++ nothing missing

-- no packet is open
abbrev pub IsIdle : {T : Type 0} → Table T → Type 0
IsIdle table = (p : ℕ) → IsOpen table p → ⊥

-- The first branches have given these arrivals of a packet. No other packet is open; with the last branch the table is
-- idle again, and the arrivals are there.
pub record IsGathering (come : List Arrival) (table : Table Arrival) (packet : ℕ) (into : List Arrival) : Type 0 where
  pub entries : 0 < table.entries
  pub only : (p : ℕ) → IsOpen table p → p ≡ packet
  pub here : length come < table.branches → arrivals table packet ≡ partly come (table.branches - length come)
  pub waits : length come < table.branches → into ≡ []
  pub idle : table.branches ≤ length come → IsIdle table
  pub whole : table.branches ≤ length come → into ≡ come

-- The next branch's arrival may come after these.
pub record MayCome (come : List Arrival) (table : Table Arrival) (packet branch : ℕ) (into : List Arrival) : Type 0 where
  pub next : branch ≡ length come
  pub inside : branch < table.branches
  pub gathering : IsGathering come table packet into

-- The table has a place, and is idle, for this number of branches.
pub record IsReady (table : Table Arrival) (branches : ℕ) : Type 0 where
  pub some : 0 < branches
  pub few : branches ≤ 64
  pub count : table.branches ≡ branches
  pub entries : 0 < table.entries
  pub idle : IsIdle table

-- an arrival fits what is due if it is that or is short
abbrev pub ArrivalFits : PlainMessage PlainVersion → Arrival → Type 0
ArrivalFits due arrival = (arrival ≡ as_arrival due) ⊎ (arrival ≡ Short)

-- so do these, one for each
unfoldable pub RowFits : List (PlainMessage PlainVersion) → List Arrival → Type 0
RowFits [] [] = Unit {0}
RowFits [] (a ∷ row) = ⊥
RowFits (due ∷ dues) [] = ⊥
RowFits (due ∷ dues) (a ∷ row) = ArrivalFits due a × RowFits dues row

-- A board has room to hand a row of this number of branches over, and nothing is there.
pub record IsClear (branches : ℕ) (parcels : List (PlainMessage PlainVersion)) (room : ℕ) : Type 0 where
  pub some : 0 < branches
  pub none : parcels ≡ []
  pub enough : branches ≤ room
