-- For proofs: what the fields of each end keep.
use Rattle.std.specs.Prelude.{◌≡◌, ◌<◌, ◌≤◌, ◌^◌, ℕ, Option, true, length}
use Rattle.crossbeam_queue.specs.declared.array_queue.Doing.{Doing}
use Rattle.crossbeam_queue.specs.declared.array_queue.Slotted.{Slotted}
use Rattle.crossbeam_queue.specs.Passes.{Pass, IsPassOf, ruled_capacity}
use Rattle.ruled_links.specs.declared.rule.Knowledge.{Knowledge}
use Rattle.ruled_links.specs.Ends.{known}

module _ {T Q A : Type 0} (queue : Slotted (Option T) (Doing T (Knowledge T)) Q A) (pass : Pass T (Knowledge T)) where
  -- the pass is the queue's, and puts; the queue has the requested room, and the count is that of the messages put
  pub record IsPutting (capacity count : ℕ) : Type 0 where
    pub own : IsPassOf queue pass
    pub opened : (known pass).opened ≡ true
    pub puts : (known pass).puts ≡ true
    pub room : ruled_capacity queue ≡ capacity
    pub counted : count ≡ length (known pass).put
    pub within : count ≤ capacity
    pub few : capacity < 2 ^ 32

  -- the pass is the queue's, and takes; the count is that of the messages taken
  pub record IsTaking (count : ℕ) : Type 0 where
    pub own : IsPassOf queue pass
    pub opened : (known pass).opened ≡ true
    pub takes : (known pass).takes ≡ true
    pub counted : count ≡ length (known pass).taken
    pub few : count ≤ 2 ^ 32
