use Rattle.std.proofs.Common.{◌≡◌, take}
use Rattle.policy_text.specs.Names.{names_at}
use Rattle.chain_service.proofs.service.names.Given as goal

abbrev pub invariant-places : goal.invariant-places
invariant-places l = l.names.items ≡ names_at l.declared (take l.place-index l.places)
