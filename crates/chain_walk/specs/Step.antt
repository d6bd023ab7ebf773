-- Believed: what a network function does with one packet.
use Rattle.std.specs.Prelude.{Bool, true, false, None}
use Rattle.action_profile.specs.declared.rights.Profile.{Profile}
use Rattle.chain_walk.specs.Shown.{Shown, Values, shown_by}
use Rattle.chain_walk.specs.declared.fixed.Fixed.{Fixed}
use Rattle.chain_walk.specs.declared.verdict.Verdict.{Verdict}
use Rattle.chain_walk.specs.declared.verdict.Verdict.TheVariants.{Pass, Drop}

-- The function in its new state, what it decided, and the new value of each field that it wrote.
pub record Step (F : Type 0) : Type 0 where
  pub after : F
  pub verdict : Verdict
  pub written : Values

-- How the functions of a type behave: what each may do, and what it does with what it is shown.
pub record Behaviour (F : Type 0) : Type 0 where
  pub profile : F → Profile
  pub step : F → Shown → Step F

-- what a function does with a packet of these values
abbrev pub stepped : {F : Type 0} → Behaviour F → Fixed → F → Values → Step F
stepped b fixed f values = b.step f (shown_by (b.profile f) fixed values)

abbrev pub is_drop : Verdict → Bool
is_drop Pass = false
is_drop Drop = true

-- nothing is written
abbrev pub nothing : Values
nothing f = None
