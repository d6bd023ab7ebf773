-- For proofs: functions in places, one place for each position of a chain, some of them empty.
use Rattle.std.specs.Prelude.{◌≡◌, ◌<◌, ◌≤◌, ◌-◌, ◌⊎◌, ℕ, suc, List, Option, None, Some, length, slice_get, slice_index_or}
use Rattle.graph_compile.specs.Facts.{times}

-- what is at a place
abbrev pub at_place : {F : Type 0} → List (Option F) → ℕ → Option F
at_place places k = slice_index_or places k None

-- The functions at these positions are still in their places, and none is named twice.
pub record AreThere {F : Type 0} (functions : List F) (places : List (Option F)) (positions : List ℕ) : Type 0 where
  pub count : length places ≡ length functions
  pub within : (j q : ℕ) → slice_get positions j ≡ Some q → (1 ≤ q) × (q ≤ length functions)
  pub there : (j q : ℕ) → slice_get positions j ≡ Some q → at_place places (q - 1) ≡ slice_get functions (q - 1)
  pub once : (q : ℕ) → times q positions ≤ 1

-- All functions are in their places, except some of those at these positions.
pub record AreBack {F : Type 0} (functions : List F) (places : List (Option F)) (positions : List ℕ) : Type 0 where
  pub count : length places ≡ length functions
  pub within : (j q : ℕ) → slice_get positions j ≡ Some q → (1 ≤ q) × (q ≤ length functions)
  pub there : (k : ℕ) → k < length functions → (at_place places k ≡ slice_get functions k) ⊎ (1 ≤ times (suc k) positions)
