-- For proofs: functions that do the same with every packet, and functions that pass all packets, or none.
use Rattle.std.specs.Prelude.{◌≡◌, Bool}
use Rattle.chain_walk.specs.Shown.{Shown}
use Rattle.chain_walk.specs.Step.{is_drop}
use Rattle.net_functions.specs.NetFunctions.{net_behaviour}
use Rattle.net_functions.specs.declared.net_function.NetFunction.{NetFunction}
use Rattle.net_functions.specs.declared.making.Made.{Made}
use Rattle.net_functions.specs.declared.making.Made.TheVariants.{Function}

-- Both may do the same, and whatever they are shown of a packet, they decide the same and write the same.
pub record AreAlike (f g : NetFunction) : Type 0 where
  pub profile : net_behaviour.profile f ≡ net_behaviour.profile g
  pub verdict : (shown : Shown) → (net_behaviour.step f shown).verdict ≡ (net_behaviour.step g shown).verdict
  pub written : (shown : Shown) → (net_behaviour.step f shown).written ≡ (net_behaviour.step g shown).written
  pub stays : (shown : Shown) → (net_behaviour.step f shown).after ≡ f
  pub other_stays : (shown : Shown) → (net_behaviour.step g shown).after ≡ g

-- so of what is made of declarations
abbrev pub AreMadeAlike : Made → Made → Type 0
AreMadeAlike (Function f) (Function g) = AreAlike f g
AreMadeAlike made other = ⊥

-- Whatever the function is shown of a packet, it drops it, or passes it, and stays as it is.
pub record DropsBy (drops : Bool) (f : NetFunction) : Type 0 where
  pub verdict : (shown : Shown) → is_drop (net_behaviour.step f shown).verdict ≡ drops
  pub stays : (shown : Shown) → (net_behaviour.step f shown).after ≡ f

abbrev pub IsMadeToDrop : Bool → Made → Type 0
IsMadeToDrop drops (Function f) = DropsBy drops f
IsMadeToDrop drops made = ⊥
