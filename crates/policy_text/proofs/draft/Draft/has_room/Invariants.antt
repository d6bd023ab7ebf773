use Rattle.std.proofs.Common.{◌≡◌, ◌<◌, ◌≤◌, drop}
use Rattle.std.specs.Prelude.{nat_lt}
use Rattle.policy_text.specs.Grammar.{count_functions}
use Rattle.policy_text.proofs.draft.Draft.has_room.Given as goal

-- the rest decides
abbrev pub invariant-chains : goal.invariant-chains
invariant-chains l = (0 < l.room) × (l.room ≤ 64) × (nat_lt (count_functions (drop l.chain-index l.chain-items)) l.room ≡ nat_lt (count_functions l.self) 64)
