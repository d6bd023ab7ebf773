-- For proofs: what holds for the order of a chain that was taken.
use Rattle.std.specs.Prelude.{◌<◌, ◌≤◌, length, All, IsPermutation}
use Rattle.std.specs.List.{range_with_len}
use Rattle.policy_text.specs.declared.policy.ChainPolicy.{ChainPolicy}
use Rattle.policy_check.specs.declared.fault.Order.{Order}

-- It has each function once, counted from 0 as declared.
pub record IsOrdered (chain : ChainPolicy) (order : Order) : Type 0 where
  pub each_once : IsPermutation (range_with_len 0 (length chain.functions)) order.positions
  pub inside : All (λ p. p < length chain.functions) order.positions
  pub few : length chain.functions ≤ 64
