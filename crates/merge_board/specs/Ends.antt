-- For proofs: a board and its seats, as contracts see them.
use Rattle.std.specs.Prelude.{◌≡◌, ℕ, zero, suc, List, [], ◌∷◌, ◌++◌, length}
use mathlib.Core.Option.{some}
use lib.ListN.{get_elem?}
use Rattle.atomic_table.specs.Seated.{TableId}

-- which board it is, and for how many packets, branches and mergers
pub record Sized : Type 0 where
  pub board : TableId
  pub pids : ℕ
  pub branches : ℕ
  pub mergers : ℕ

-- A branch puts with it: its board and branch, what is due, by branch and packet, and the packets that were
-- put, the last first.
pub record BranchEnd (T : Type 0) : Type 0 where
  pub board : TableId
  pub branch : ℕ
  pub due : List (List T)
  pub put : List ℕ

-- A merger polls with it: its board and merger, what is due, by branch and packet, and the packets that are
-- complete, the last first. It also has the number of loads of a word so far, and the packet and the word of the last
-- load; only a load changes these three.
pub record MergerEnd (T : Type 0) : Type 0 where
  pub board : TableId
  pub merger : ℕ
  pub due : List (List T)
  pub done : List ℕ
  pub loads : ℕ
  pub pid : ℕ
  pub word : ℕ

-- this number in a row, of which number `i`, from 0, is `made i`
abbrev pub each : {S : Type 0} → (ℕ → S) → ℕ → List S
each made zero = []
each made (suc n) = each made n ++ made n ∷ []

-- the seat of branch `i`, which has put nothing
abbrev pub new_branch : {T : Type 0} → TableId → List (List T) → ℕ → BranchEnd T
new_branch board due i = record { board = board; branch = i; due = due; put = [] }

-- the seat of merger `i`, which has loaded nothing
abbrev pub new_merger : {T : Type 0} → TableId → List (List T) → ℕ → MergerEnd T
new_merger board due i = record { board = board; merger = i; due = due; done = []; loads = 0; pid = 0; word = 0 }

-- there is this number of them, and each is of this board
abbrev pub AreAllOf : {S : Type 0} → TableId → ℕ → (S → TableId) → List S → Type 0
AreAllOf {S} board n of seats = (length seats ≡ n) × ((i : ℕ) (s : S) → get_elem? seats i ≡ some s → of s ≡ board)
