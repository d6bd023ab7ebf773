-- Believed: all the packets of a capture, each walking through the functions as the one before left them.
use Rattle.std.specs.Prelude.{ℕ, List, [], ◌∷◌}
use Rattle.chain_walk.specs.Step.{Behaviour}
use Rattle.chain_walk.specs.Walk.{walk}
use Rattle.chain_walk.specs.declared.walk.Fate.{Fate}

-- A packet: the time of its capture, in nanoseconds, and its frame.
pub record Packet : Type 0 where
  pub time : ℕ
  pub frame : List ℕ

-- where each packet ends, in order
unfoldable pub fates : {F : Type 0} → Behaviour F → List F → List Packet → List Fate
fates b fs [] = []
fates b fs (p ∷ ps) = (walk b p.time 1 fs p.frame).fate ∷ fates b (walk b p.time 1 fs p.frame).functions ps

-- the functions in the state in which the last packet left them
unfoldable pub functions_after : {F : Type 0} → Behaviour F → List F → List Packet → List F
functions_after b fs [] = fs
functions_after b fs (p ∷ ps) = functions_after b (walk b p.time 1 fs p.frame).functions ps
