use Rattle.std.proofs.Common.{length}
use Rattle.std.specs.List.{slice_split}
use Rattle.policy_text.specs.Addresses6.{is_colon}
use Rattle.policy_text.proofs.GroupReading.{ReadsGroups}
use Rattle.policy_text.proofs.value6.read_groups.Given as goal

-- the groups so far and the rest
abbrev pub invariant-parts : goal.invariant-parts
invariant-parts l = ReadsGroups l.text l.groups l.rest

abbrev pub decreases-parts : goal.decreases-parts
decreases-parts l = length (slice_split is_colon l.rest)
