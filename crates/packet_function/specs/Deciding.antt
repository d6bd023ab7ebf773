-- Believed: which lines of its declaration decide what a function does to a packet.
use Rattle.std.specs.Prelude.{◌≡◌, ℕ, List, [], ◌∷◌, length, true, Option, Some, None}
use Rattle.chain_walk.specs.Shown.{Shown, Values, shown_by}
use Rattle.chain_walk.specs.Step.{Behaviour, stepped, is_drop}
use Rattle.chain_walk.specs.declared.fixed.Fixed.{Fixed}
use Rattle.packet_function.specs.declared.deciding.DecidingLine.{DecidingLine}
use Rattle.packet_function.specs.declared.deciding.DecidingLine.TheVariants.{Rule}

-- For each function, the lines that decide what it does to a packet that is shown so, in the order of the text.
abbrev pub Deciding : Type 0 → Type 0
Deciding F = F → Shown → List DecidingLine

-- the lines that decide what a function does to a packet of these values
abbrev pub decided : {F : Type 0} → Behaviour F → Deciding F → Fixed → F → Values → List DecidingLine
decided b decides fixed f values = decides f (shown_by (b.profile f) fixed values)

-- the rule at this place alone, if there is one
abbrev pub rule_at : Option ℕ → List DecidingLine
rule_at (Some place) = Rule place ∷ []
rule_at None = []

-- Each drop has exactly one deciding line.
pub record DecidesDrops {F : Type 0} (b : Behaviour F) (decides : Deciding F) : Type 0 where
  pub one : (fixed : Fixed) (f : F) (v : Values) → is_drop (stepped b fixed f v).verdict ≡ true → length (decided b decides fixed f v) ≡ 1
