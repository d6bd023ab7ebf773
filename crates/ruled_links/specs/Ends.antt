-- For proofs: the two ends of a link, as contracts see them.
use Rattle.std.specs.Prelude.{ℕ, List}
use Rattle.atomic_table.specs.Seated.{TableId}
use Rattle.crossbeam_queue.specs.Passes.{Pass}
use Rattle.ruled_links.specs.declared.rule.Knowledge.{Knowledge}

-- which link it is
abbrev pub LinkId : Type 0
LinkId = TableId

-- messages are put into it, at most this number at a time
pub record PutEnd (T : Type 0) : Type 0 where
  pub link : LinkId
  pub capacity : ℕ
  pub due : List T
  pub put : List T

-- messages are taken from it
pub record TakeEnd (T : Type 0) : Type 0 where
  pub link : LinkId
  pub due : List T
  pub taken : List T

-- what the pass of an end knows
abbrev pub known : {T : Type 0} → Pass T (Knowledge T) → Knowledge T
known pass = pass.me.0.client
