use Rattle.std.proofs.Common.{◌≡◌, take, map}
use Rattle.plan_text.specs.Plan.{profile_in}
use Rattle.plan_text.proofs.functions.profiles_in.Given as goal

-- the profiles so far
abbrev pub invariant-places : goal.invariant-places
invariant-places l = l.profiles.items ≡ map (profile_in l.functions) (take l.place-index l.order)
