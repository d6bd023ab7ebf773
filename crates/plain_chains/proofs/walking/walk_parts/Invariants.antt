use Rattle.policy_chains.specs.NamedFunctions.{named_behaviour, named_decides}
use Rattle.policy_chains.specs.Parts.{part_of}
use Rattle.plain_chains.proofs.UnderWay.{IsUnderWay}
use Rattle.plain_chains.proofs.walking.walk_parts.Given as goal

abbrev pub invariant-parts : goal.invariant-parts
invariant-parts g l = IsUnderWay part_of named_behaviour named_decides l.time l.fn.parts l.fn.frame l.fn.trace l.index l.parts l.position l.frame l.trace
