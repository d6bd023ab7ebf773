-- For proofs: how packets walk that a function drops.
use Rattle.std.specs.Prelude.{ℕ, ◌≡◌, List, [], ◌∷◌, ◌++◌, length, slice_get, Some, All}
use Rattle.policy_text.specs.declared.policy.FunctionDecl.{FunctionDecl}
use Rattle.chain_walk.specs.Packets.{Packet, fates, functions_after}
use Rattle.chain_walk.specs.declared.walk.Fate.{Fate}
use Rattle.chain_walk.specs.declared.walk.Fate.TheVariants.{Out, Gone}
use Rattle.net_functions.specs.Builds.{function_of}
use Rattle.net_functions.specs.NetFunctions.{net_behaviour}
use Rattle.net_functions.specs.declared.net_function.NetFunction.{NetFunction}
use Rattle.net_functions.specs.declared.making.Made.TheVariants.{Function}

abbrev pub IsGone : Fate → Type 0
IsGone (Gone position) = Unit {0}
IsGone (Out frame) = ⊥

-- These are as many functions, of which the last are as they were.
pub record AreKept {F : Type 0} (front back functions : List F) : Type 0 where
  pub front_after : List F
  pub as_many : length front_after ≡ length front
  pub is : functions ≡ front_after ++ back

-- The functions that are made of a chain in this order, if none of them rewrites packets whole.
abbrev pub AreInOrder : List FunctionDecl → List ℕ → List NetFunction → Type 0
AreInOrder functions [] [] = Unit {0}
AreInOrder functions (place ∷ order) (f ∷ fs) = ((decl : FunctionDecl) × (slice_get functions place ≡ Some decl) × (function_of decl ≡ Function f)) × AreInOrder functions order fs
AreInOrder functions order fs = ⊥

-- Behind this many functions each function is after the packets as it was before them, and no packet comes out.
pub record StaysBehind (count : ℕ) (functions : List NetFunction) (packets : List Packet) : Type 0 where
  pub front : List NetFunction
  pub back : List NetFunction
  pub split : functions ≡ front ++ back
  pub as_many : length front ≡ count
  pub kept : AreKept front back (functions_after net_behaviour functions packets)
  pub gone : All IsGone (fates net_behaviour functions packets)
