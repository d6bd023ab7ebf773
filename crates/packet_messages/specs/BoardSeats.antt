-- For proofs: what the fields of each end keep.
use Rattle.std.specs.Prelude.{◌≡◌, ◌≤◌, ℕ, false, List, length, All}
use Rattle.merge_board.specs.Rule.{has}
use Rattle.merge_board.specs.Ends.{Sized, BranchEnd, MergerEnd}
use Rattle.packet_messages.specs.BoardRows.{row_of}

-- the board has one merger, and room for these rows, one for each branch
pub record HasRoom {T : Type 0} (board : Sized) (due : List (List T)) : Type 0 where
  pub rows : length due ≡ board.branches
  pub long : All (λ row. length row ≤ board.pids) due
  pub few : board.pids ≤ 65536
  pub one : board.mergers ≡ 1

-- none of these packets is this one or one after it
abbrev pub NoneFrom : ℕ → List ℕ → Type 0
NoneFrom next packets = (p : ℕ) → next ≤ p → has packets p ≡ false

-- the seat is the board's, and puts the packets in their order
pub record IsGiving {T : Type 0} (board : Sized) (seat : BranchEnd T) (next : ℕ) : Type 0 where
  pub own : seat.board ≡ board.board
  pub long : length (row_of seat.due seat.branch) ≤ board.pids
  pub few : board.pids ≤ 65536
  pub ahead : NoneFrom next seat.put
  pub all : length seat.put ≡ next

-- the seat is that of the board's one merger, and takes the packets in their order
pub record IsTaking {T : Type 0} (board : Sized) (seat : MergerEnd T) (branches next : ℕ) : Type 0 where
  pub own : seat.board ≡ board.board
  pub room : HasRoom board seat.due
  pub each_branch : branches ≡ board.branches
  pub only : seat.merger ≡ 0
  pub ahead : NoneFrom next seat.done
