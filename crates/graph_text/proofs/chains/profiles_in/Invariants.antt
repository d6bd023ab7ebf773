use Rattle.std.proofs.Common.{◌≡◌, take}
use Rattle.graph_text.specs.Chains.{profiles_in}
use Rattle.graph_text.proofs.chains.profiles_in.Given as goal

-- the profiles so far
abbrev pub invariant-places : goal.invariant-places
invariant-places l = l.profiles.items ≡ profiles_in l.functions (take l.place-index l.order)
