-- For proofs: the rows that a table keeps: each is a packet's, or free.
use Rattle.std.specs.Prelude.{ℕ, ◌≡◌, ◌≢◌, ◌<◌, ◌≤◌, ◌⊎◌, List, [], ◌∷◌, Option, Some, None, All, length}
use Rattle.std.specs.List.{AllPairs, HoldsAt}
use Rattle.acc_table.specs.Arrivals.{nothing}

-- one row: its owner, and what has arrived, by branch
pub record Place (T : Type 0) : Type 0 where
  pub pid : Option ℕ
  pub arrived : List (Option T)

abbrev pub entered : {T : Type 0} → Option ℕ → List (Option T) → List (ℕ × List (Option T)) → List (ℕ × List (Option T))
entered None arrived es = es
entered (Some p) arrived es = (p, arrived) ∷ es

-- the packets of the rows that aren't free
abbrev pub opened : {T : Type 0} → List (Place T) → List (ℕ × List (Option T))
opened [] = []
opened (r ∷ rs) = entered r.pid r.arrived (opened rs)

-- no row is this packet's
abbrev pub Absent : {T : Type 0} → ℕ → List (Place T) → Type 0
Absent p rs = All (λ r. r.pid ≢ Some p) rs

-- no two rows are the same packet's
abbrev pub Once : {T : Type 0} → List (Place T) → Type 0
Once rs = AllPairs (λ a b. (p : ℕ) → a.pid ≡ Some p → b.pid ≢ Some p) rs

-- a row that is free holds nothing
abbrev pub IsKept : {T : Type 0} → ℕ → Place T → Type 0
IsKept branches r = (length r.arrived ≡ branches) × (r.pid ≡ None → r.arrived ≡ nothing branches)

pub record AreKept {T : Type 0} (branches : ℕ) (rs : List (Place T)) : Type 0 where
  pub few : length rs ≤ 65536
  pub each : All (IsKept branches) rs
  pub once : Once rs

-- the place of this packet: its own, or a free one if it has none
pub record IsPlaceFor {T : Type 0} (p : ℕ) (rs : List (Place T)) (i : ℕ) : Type 0 where
  pub within : i < length rs
  pub either : HoldsAt (λ r. r.pid ≡ Some p) rs i ⊎ (HoldsAt (λ r. r.pid ≡ None) rs i × Absent p rs)
