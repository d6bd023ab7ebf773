use Rattle.std.proofs.Common.{◌≡◌, take, map}
use Rattle.policy_text.specs.Names.{names_at}
use Rattle.policy_text.proofs.names.names_at.Given as goal

-- the names so far
abbrev pub invariant-places : goal.invariant-places
invariant-places l = map (λ n. n.now) l.names.items ≡ names_at l.functions (take l.place-index l.places)
