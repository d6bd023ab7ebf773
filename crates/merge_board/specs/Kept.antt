-- For proofs: what the fields of a board and of its seats keep.
use Rattle.std.specs.Prelude.{◌≡◌, ◌<◌, ◌≤◌, ◌+◌, ◌*◌, ℕ, [], Option, false, None}
use Rattle.atomic_table.specs.Seated.{TableId}
use Rattle.atomic_table.specs.Table.{Me}
use Rattle.merge_board.specs.declared.rule.Sizes.{Sizes}
use Rattle.merge_board.specs.declared.rule.View.{View}

-- the table holds the sizes, and has a word for each packet and a slot for each packet and branch
pub record IsSized (told sizes : Sizes) (table : TableId) : Type 0 where
  pub key : told ≡ sizes
  pub words : table.words ≡ sizes.pids
  pub slots : table.slots ≡ sizes.pids * sizes.branches
  pub some_pids : 0 < sizes.pids
  pub few_pids : sizes.pids ≤ 65536
  pub some_branches : 0 < sizes.branches
  pub few_branches : sizes.branches ≤ 64
  pub some_mergers : 0 < sizes.mergers

module _ {T : Type 0} (table : TableId) (me : Me (Option T) (View T)) where
  -- the seat has the role of this branch, and between two calls holds no slot and has no packet in hand
  pub record IsBranch (branch : ℕ) : Type 0 where
    pub plays : me.0.makes ≡ false
    pub role : me.0.role ≡ branch
    pub within : branch < me.0.branches
    pub idle : me.0.hand ≡ None
    pub empty : me.1 ≡ []
    pub wide : table.slots ≡ table.words * me.0.branches

  -- the seat has the role of this merger; the roles of mergers come after those of branches
  pub record IsMerger (merger : ℕ) : Type 0 where
    pub plays : me.0.makes ≡ false
    pub role : me.0.role ≡ me.0.branches + merger
    pub wide : table.slots ≡ table.words * me.0.branches
