use Rattle.std.proofs.Common.{◌≡◌, map, take}
use Rattle.policy_judge.specs.Making.{place_of}
use Rattle.policy_chains.specs.Taking.{without_all}
use Rattle.policy_chains.proofs.CutSoFar.{IsCutSoFar}
use Rattle.policy_chains.proofs.taken.taken_parts.Given as goal

abbrev pub invariant-places : goal.invariant-places
invariant-places l = record {
  cut : IsCutSoFar l.declared l.places l.cutting l.place-index;
  left : l.made.items ≡ without_all (map place_of l.declared) (take l.place-index l.places);
}
